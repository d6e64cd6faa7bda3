-- What is said is heard: whole, and as nothing before it is whole.
use mathlib.Core.Path.{◌≡◌, refl, ap, sym, ◌∙◌, subst}
use mathlib.Core.Bool.{Bool, true, false, cond}
use mathlib.Core.List.{List, [], ◌∷◌, ◌++◌, append_assoc, append-nil}
use Prim.Native.Nat.{ℕ, ◌+◌, ◌*◌, ◌/◌, ◌%◌, ◌<◌, ◌≤◌}
use native.Mathlib.Nat.{div-add-mod'}
use native.Mathlib.Omega.{arith}
use borrow.Author.Tests.{eqb-true, eq-eqb, lt-ltb, le-leb}
use lib.Dec.{eqb, ltb}
use lib.ListN.{length, take, length-append}
use Rattle.text.specs.Head.{head_of}
use Rattle.text.specs.Digit.{digit_of, is_digit}
use Rattle.text.specs.Spelt.{face_of}
use Rattle.text.proofs.Worth.{face_worth}
use Rattle.remote.specs.Sum.{sum_of, says_of}
use Rattle.remote.specs.Payload.{Reading, plain, added_of, plain_of, step_of, steps_of, read_of}
use Rattle.remote.specs.Heard.{Hearing, only, answered_of, heard_of}
use Rattle.remote.specs.Said.{coded_of, body_of, closing_of, said_of}
use Rattle.remote.specs.declared.kind.Heard.TheVariants.{More, Packet, Damaged}
use Rattle.remote.proofs.Clear.{Clear, clear_append, heard_frame, heard_cut}

-- a byte that is coded, or any other
data Kind : ℕ → Type 0 where
  hash : Kind 35
  dollar : Kind 36
  star : Kind 42
  brace : Kind 125
  other : {b : ℕ} → eqb b 35 ≡ false → eqb b 36 ≡ false → eqb b 42 ≡ false → eqb b 125 ≡ false → Kind b

kind_of : (b : ℕ) → Kind b
kind_of b = go (eqb b 35) refl (eqb b 36) refl (eqb b 42) refl (eqb b 125) refl
  where
    go : (p : Bool) → eqb b 35 ≡ p → (q : Bool) → eqb b 36 ≡ q → (r : Bool) → eqb b 42 ≡ r → (s : Bool) → eqb b 125 ≡ s → Kind b
    go true e q f r g s h = subst Kind (sym (eqb-true b 35 e)) hash
    go false e true f r g s h = subst Kind (sym (eqb-true b 36 f)) dollar
    go false e false f true g s h = subst Kind (sym (eqb-true b 42 g)) star
    go false e false f false g true h = subst Kind (sym (eqb-true b 125 h)) brace
    go false e false f false g false h = other e f g h

-- ---- the body is clear
clear_kind : (b : ℕ) → Kind b → Clear (coded_of b)
unfolding coded_of head_of
clear_kind b hash = refl
clear_kind b dollar = refl
clear_kind b star = refl
clear_kind b brace = refl
clear_kind b (other e f g h) = rw (e, f, g, h) (rw (e, f))

clear_coded : (b : ℕ) → Clear (coded_of b)
clear_coded b = clear_kind b (kind_of b)

pub clear_body : (r : List ℕ) → Clear (body_of r)
unfolding body_of head_of
clear_body [] = refl
clear_body (b ∷ r) = clear_append (coded_of b) (body_of r) (clear_coded b) (clear_body r)

-- ---- the body stands for the reply
steps_append : (room : ℕ) (r : Reading) (s t : List ℕ) → steps_of room r (s ++ t) ≡ steps_of room (steps_of room r s) t
unfolding steps_of
steps_append room r [] t = refl
steps_append room r (b ∷ s) t = steps_append room (step_of room r b) s t

module _ (room : ℕ) (done : List ℕ) (fits : length done + 1 ≤ room) where
  added : (b : ℕ) → added_of room done (b ∷ []) ≡ plain (done ++ b ∷ [])
  unfolding added_of
  added b = rw (le-leb _ _ fits)

  steps_kind : (b : ℕ) → Kind b → steps_of room (plain done) (coded_of b) ≡ plain (done ++ b ∷ [])
  unfolding coded_of steps_of plain_of
  steps_kind b hash = added 35
  steps_kind b dollar = added 36
  steps_kind b star = added 42
  steps_kind b brace = added 125
  steps_kind b (other e f g h) = rw (e, f, g, h) (rw (h, g) (added b))

steps_body : (room : ℕ) (r done : List ℕ) → length done + length r ≤ room → steps_of room (plain done) (body_of r) ≡ plain (done ++ r)
unfolding body_of steps_of
steps_body room [] done h = ap plain (sym (append-nil done))
steps_body room (b ∷ r) done h =
    let n : length (done ++ b ∷ []) ≡ length done + 1 = length-append done (b ∷ []) in
    steps_append room (plain done) (coded_of b) (body_of r)
    ∙ ap (λ x. steps_of room x (body_of r)) (steps_kind room done (omega arith) b (kind_of b))
    ∙ steps_body room r (done ++ b ∷ []) (omega arith)
    ∙ ap plain (append_assoc done (b ∷ []) r)

-- ---- the digits say the checksum
face_digit : (d : ℕ) → d < 16 → is_digit 16 (face_of d) ≡ true
face_digit d h = ap (λ x. ltb x 16) (face_worth d h) ∙ lt-ltb d 16 h

pub says_closing : (sum : ℕ) → sum < 256 → says_of (face_of (sum / 16)) (face_of (sum % 16)) sum ≡ true
unfolding says_of
says_closing sum h =
    let a : sum / 16 < 16 = omega arith in
    let b : sum % 16 < 16 = omega arith in
    let value : digit_of (face_of (sum / 16)) * 16 + digit_of (face_of (sum % 16)) ≡ sum =
    ap (λ x. x * 16 + digit_of (face_of (sum % 16))) (face_worth (sum / 16) a) ∙ ap (λ x. sum / 16 * 16 + x) (face_worth (sum % 16) b) ∙ div-add-mod' sum 16 in
    rw (face_digit (sum / 16) a, face_digit (sum % 16) b) (eq-eqb _ _ value)

-- ---- the theorems
said_length : (r : List ℕ) → length (said_of r) ≡ length (body_of r) + 4
unfolding said_of
said_length r = let e : length (body_of r ++ closing_of (sum_of (body_of r))) ≡ length (body_of r) + 3 = length-append (body_of r) (closing_of (sum_of (body_of r))) in omega arith

said_then : (r rest : List ℕ) → said_of r ++ rest ≡ 36 ∷ (body_of r ++ 35 ∷ face_of (sum_of (body_of r) / 16) ∷ face_of (sum_of (body_of r) % 16) ∷ rest)
unfolding said_of
said_then r rest = ap (λ s. 36 ∷ s) (append_assoc (body_of r) (closing_of (sum_of (body_of r))) rest)

-- a reply that the room holds comes back, whatever follows it, and its packet is used up
pub heard_said : (r rest : List ℕ) (room : ℕ) → length r ≤ room
    → heard_of (said_of r ++ rest) room ≡ record { answer = Packet (length (said_of r)) (length r); payload = r }
heard_said r rest room h =
    let small : sum_of (body_of r) < 256 = omega arith in
    let fits : length {A = ℕ} [] + length r ≤ room = omega arith in
    let split : said_of r ++ rest ≡ 36 ∷ (body_of r ++ 35 ∷ face_of (sum_of (body_of r) / 16) ∷ face_of (sum_of (body_of r) % 16) ∷ rest) = said_then r rest in
    ap (λ s. heard_of s room) split
    ∙ heard_frame room (body_of r) (clear_body r) (face_of (sum_of (body_of r) / 16)) (face_of (sum_of (body_of r) % 16)) rest
    ∙ ap (λ t. cond t (answered_of (length (body_of r) + 4) (read_of room (body_of r))) (only (Damaged (length (body_of r) + 4)))) (says_closing (sum_of (body_of r)) small)
    ∙ ap (answered_of (length (body_of r) + 4)) (steps_body room r [] fits)
    ∙ ap {B = Hearing} (λ n. record { answer = Packet n (length r); payload = r }) (sym (said_length r))

-- cut anywhere, it is not whole yet
pub said_cut : (r : List ℕ) (room k : ℕ) → k < length (said_of r) → heard_of (take k (said_of r)) room ≡ only More
unfolding said_of
said_cut r room k h =
    let l : length (body_of r ++ closing_of (sum_of (body_of r))) ≡ length (body_of r) + 3 = length-append (body_of r) (closing_of (sum_of (body_of r))) in
    heard_cut room (body_of r) (clear_body r) (face_of (sum_of (body_of r) / 16)) (face_of (sum_of (body_of r) % 16)) k (omega arith)
