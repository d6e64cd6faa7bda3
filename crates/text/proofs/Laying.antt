-- Bytes laid behind bytes: where they end, and that the parts lay the whole.
use mathlib.Core.Path.{◌≡◌, refl, ap, sym, ◌∙◌}
use mathlib.Core.List.{List, [], ◌∷◌, ◌++◌}
use Prim.Native.Nat.{ℕ, suc, ◌+◌, ◌<◌, ◌≤◌}
use mathlib.Core.Bool.{Bool, true, false}
use lib.Dec.{ltb}
use borrow.Author.Tests.{ltb-true, ltb-false}
use native.Mathlib.Omega.{arith}
use native.Mathlib.Numerals.{add-one}
use lib.ListN.{length, get_or, take, length-append, length-set, set}
use lib.Seq.{sets, set_out, length-sets, take-suc, take_all}
use Rattle.text.specs.Laid.{Laid, behind_of}

-- behind the end nothing is stored
sets_out : (l : List ℕ) (i : ℕ) (vs : List ℕ) → length l ≤ i → sets l i vs ≡ l
sets_out l i [] h = refl
sets_out l i (v ∷ vs) h = rw (set_out l i v h) (sets_out l (suc i) vs (omega arith))

behind_add : (n at j k : ℕ) → behind_of n (behind_of n at j) k ≡ behind_of n at (j + k)
behind_add n at j k = omega arith

sets_then : (l : List ℕ) (i n : ℕ) (xs ys : List ℕ) → length l ≡ n → sets (sets l i xs) (behind_of n i (length xs)) ys ≡ sets l i (xs ++ ys)
sets_then l i n [] ys e = let z : behind_of n i 0 ≡ i = omega arith in ap (λ j. sets l j ys) z
sets_then l i n (x ∷ xs) ys e = go (ltb i n) refl (sets_then (set l i x) (suc i) n xs ys (length-set l i x ∙ e))
  where
    go : (t : Bool) → ltb i n ≡ t
        → sets (sets (set l i x) (suc i) xs) (behind_of n (suc i) (length xs)) ys ≡ sets (set l i x) (suc i) (xs ++ ys)
        → sets (sets l i (x ∷ xs)) (behind_of n i (suc (length xs))) ys ≡ sets l i ((x ∷ xs) ++ ys)
    go true h rest =
        let k : i < n = ltb-true i n h in
        let z : behind_of n i (suc (length xs)) ≡ behind_of n (suc i) (length xs) = omega arith in
        ap (λ j. sets (sets (set l i x) (suc i) xs) j ys) z ∙ rest
    go false h rest =
        let k : n ≤ i = ltb-false i n h in
        let out : length l ≤ i = omega arith in
        ap (λ m. sets m (behind_of n i (suc (length xs))) ys) (sets_out l i (x ∷ xs) out)
        ∙ sets_out l (behind_of n i (suc (length xs))) ys (omega arith)
        ∙ sym (sets_out l i ((x ∷ xs) ++ ys) out)

pub laid_length : {out : List ℕ} {at : ℕ} {bytes after : List ℕ} {next : ℕ} → Laid out at bytes after next → length after ≡ length out
laid_length {out} {at} {bytes} l = ap length l.buffer ∙ length-sets out at bytes

pub laid_none : (out : List ℕ) (at : ℕ) → Laid out at [] out at
laid_none out at = record { buffer = refl; place = omega arith }

pub laid_past : (out : List ℕ) (at byte : ℕ) → length out ≤ at → Laid out at (byte ∷ []) out at
laid_past out at byte h = record { buffer = sym (set_out out at byte h); place = omega arith }

pub laid_one : (out : List ℕ) (at byte : ℕ) → at < length out → Laid out at (byte ∷ []) (set out at byte) (at + 1)
laid_one out at byte h = record { buffer = refl; place = omega arith }

pub laid_then : {out : List ℕ} {at : ℕ} {a mid : List ℕ} {p : ℕ} {b after : List ℕ} {next : ℕ}
    → Laid out at a mid p → Laid mid p b after next → Laid out at (a ++ b) after next
laid_then {out} {at} {a} {mid} {p} {b} l k =
    let n : length mid ≡ length out = laid_length l in
    record {
      buffer = k.buffer ∙ ap (λ m. sets m p b) l.buffer ∙ ap (λ q. sets (sets out at a) q b) l.place ∙ sets_then out at (length out) a b refl;
      place = k.place ∙ ap (λ m. behind_of m p (length b)) n ∙ ap (λ q. behind_of (length out) q (length b)) l.place
          ∙ behind_add (length out) at (length a) (length b) ∙ ap (behind_of (length out) at) (sym (length-append a b));
    }

-- the first i bytes, and the next
pub laid_more : {out : List ℕ} {at : ℕ} (bytes : List ℕ) (i : ℕ) {mid : List ℕ} {p : ℕ} {after : List ℕ} {next : ℕ}
    → i < length bytes → Laid out at (take i bytes) mid p → Laid mid p (get_or bytes i 0 ∷ []) after next → Laid out at (take (i + 1) bytes) after next
laid_more bytes i h l k = rw (add-one i, take-suc bytes i 0 h) (laid_then l k)

pub laid_all : {out : List ℕ} {at : ℕ} (bytes : List ℕ) (i : ℕ) {after : List ℕ} {next : ℕ}
    → length bytes ≤ i → Laid out at (take i bytes) after next → Laid out at bytes after next
laid_all bytes i h l = rw (take_all i bytes h) at l
