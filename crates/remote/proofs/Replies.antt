-- The bytes that are laid are the packet, or it does not fit.
use mathlib.Core.Path.{◌≡◌, refl, ap, sym, ◌∙◌}
use mathlib.Core.Bool.{Bool, true, false, cond}
use mathlib.Core.List.{List, [], ◌∷◌, ◌++◌, append_assoc}
use Prim.Native.Nat.{ℕ, ◌+◌, ◌/◌, ◌%◌, ◌<◌, ◌≤◌}
use native.Mathlib.Omega.{arith}
use borrow.Author.Tests.{le-leb, lt-leb, leb-true}
use lib.Dec.{leb}
use lib.ListN.{length, take, drop, length-append}
use lib.Seq.{sets-eq, take-append_seam}
use Rattle.text.specs.Laid.{Laid}
use Rattle.text.specs.Spelt.{face_of}
use Rattle.text.proofs.Laying.{laid_then, laid_length}
use Rattle.remote.specs.Sum.{sum_of}
use Rattle.std.specs.Prelude.{Option, Some, None, unwrap_or}
use Rattle.remote.specs.Said.{body_of, closing_of, said_of, fitted_of, sized_of, Says}

-- all but the last byte
abbrev pub front_of : (reply : List ℕ) (high : ℕ) → List ℕ
front_of reply high = 36 ∷ (body_of reply ++ 35 ∷ high ∷ [])

module _ (reply out mid : List ℕ) (high p : ℕ) (laid : Laid out 0 (front_of reply high) mid p) where
  front_length : length (front_of reply high) ≡ length (body_of reply) + 3
  front_length = let e : length (body_of reply ++ 35 ∷ high ∷ []) ≡ length (body_of reply) + 2 = length-append (body_of reply) (35 ∷ high ∷ []) in omega arith

  said_length : length (said_of reply) ≡ length (body_of reply) + 4
  unfolding said_of
  said_length =
      let e : length (body_of reply ++ closing_of (sum_of (body_of reply))) ≡ length (body_of reply) + 3 = length-append (body_of reply) (closing_of (sum_of (body_of reply))) in
      omega arith

  pub say_none : length mid ≤ p → Says reply out mid None
  unfolding fitted_of
  say_none h =
      let f : length (front_of reply high) ≡ length (body_of reply) + 3 = front_length in
      let s : length (said_of reply) ≡ length (body_of reply) + 4 = said_length in
      let o : length mid ≡ length out = laid_length laid in
      let over : length out < length (said_of reply) = omega (arith, laid.place) in
      let none : fitted_of (length out) (said_of reply) ≡ [] = ap (λ t. cond t (said_of reply) []) (lt-leb _ _ over) in
      record { count = sym (ap (λ t. cond t (Some (length (said_of reply))) None) (lt-leb _ _ over)); bytes = sym none }

  -- the last byte, behind the others
  module _ (sum : ℕ) (a : sum ≡ sum_of (body_of reply)) (b : high ≡ face_of (sum / 16)) where
    said_split : front_of reply high ++ face_of (sum % 16) ∷ [] ≡ said_of reply
    unfolding said_of
    said_split =
        ap (λ s. 36 ∷ s) (append_assoc (body_of reply) (35 ∷ high ∷ []) (face_of (sum % 16) ∷ []))
        ∙ ap (λ x. 36 ∷ (body_of reply ++ 35 ∷ x ∷ face_of (sum % 16) ∷ [])) b
        ∙ ap (λ n. 36 ∷ (body_of reply ++ closing_of n)) a

    pub say_whole : p < length mid → (after : List ℕ) (n : ℕ) → Laid mid p (face_of (sum % 16) ∷ []) after n → Says reply out after (Some n)
    unfolding fitted_of
    say_whole h after n last =
        let whole : Laid out 0 (said_of reply) after n = rw said_split at (laid_then laid last) in
        let f : length (front_of reply high) ≡ length (body_of reply) + 3 = front_length in
        let s : length (said_of reply) ≡ length (body_of reply) + 4 = said_length in
        let o : length mid ≡ length out = laid_length laid in
        let fits : length (said_of reply) ≤ length out = omega (arith, laid.place) in
        let fits0 : 0 + length (said_of reply) ≤ length out = omega arith in
        let all : fitted_of (length out) (said_of reply) ≡ said_of reply = ap (λ t. cond t (said_of reply) []) (le-leb _ _ fits) in
        let place : n ≡ length (said_of reply) = omega (arith, whole.place) in
        record {
          count = ap Some place ∙ sym (ap (λ t. cond t (Some (length (said_of reply))) None) (le-leb _ _ fits));
          bytes = ap (λ k. take k after) place
              ∙ ap (take (length (said_of reply))) (whole.buffer ∙ sets-eq (said_of reply) out 0 fits0)
              ∙ take-append_seam (said_of reply) (drop (0 + length (said_of reply)) out)
              ∙ sym all;
        }

-- of what the code answers
sized_within : (room : ℕ) (s : List ℕ) → unwrap_or (sized_of room s) 0 ≤ room
sized_within room s = go (leb (length s) room) refl
  where
    go : (t : Bool) → leb (length s) room ≡ t → unwrap_or (cond t (Some (length s)) None) 0 ≤ room
    go true e = leb-true (length s) room e
    go false e = omega arith

pub says_within : {reply out after : List ℕ} {n : Option ℕ} → Says reply out after n → unwrap_or n 0 ≤ length out
says_within {reply} {out} s = rw s.count (sized_within (length out) (said_of reply))

-- and as many bytes as it answers are the packet, or none
pub says_count : {reply out after : List ℕ} {n : Option ℕ} → Says reply out after n → unwrap_or n 0 ≡ length (fitted_of (length out) (said_of reply))
unfolding fitted_of
says_count {reply} {out} s = rw s.count (go (leb (length (said_of reply)) (length out)))
  where
    go : (t : Bool) → unwrap_or (cond t (Some (length (said_of reply))) None) 0 ≡ length (cond t (said_of reply) [])
    go true = refl
    go false = refl
