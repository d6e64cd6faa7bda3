-- Lists that are digits of a base and nothing else; and that what is written for a number is such a list.
use mathlib.Core.Path.{◌≡◌, refl, ap, sym, ◌∙◌}
use mathlib.Core.Bool.{Bool, true, false, cond}
use mathlib.Core.List.{List, [], ◌∷◌, ◌++◌}
use Prim.Native.Nat.{ℕ, zero, suc, ◌+◌, ◌/◌, ◌%◌, ◌<◌, ◌≤◌}
use native.Mathlib.Nat.{zero-add, suc-add, mod-lt}
use native.Mathlib.Omega.{arith}
use borrow.Author.Tests.{lt-ltb, ltb-true}
use lib.Dec.{ltb}
use lib.ListN.{length, length-append}
use Rattle.text.specs.Head.{head_of}
use Rattle.text.specs.Digit.{is_digit, run_of}
use Rattle.text.specs.Spelt.{face_of, low_of, decimal_in}
use Rattle.text.proofs.Worth.{face_worth}

-- one digit or more
pub record Digits (base : ℕ) (s : List ℕ) : Type 0 where
  pub some : length s ≡ 0 → ⊥
  pub each : run_of base s ≡ length s

pub head_append : (p : ℕ → Bool) (s t : List ℕ) → head_of p s ≡ length s → head_of p (s ++ t) ≡ length s + head_of p t
unfolding head_of
head_append p [] t h = sym (zero-add _)
head_append p (b ∷ s) t h = go (p b) h (head_append p s t)
  where
    go : (x : Bool) → cond x (suc (head_of p s)) 0 ≡ suc (length s) → (head_of p s ≡ length s → head_of p (s ++ t) ≡ length s + head_of p t)
        → cond x (suc (head_of p (s ++ t))) 0 ≡ suc (length s) + head_of p t
    go true e ih = let l : head_of p s ≡ length s = omega arith in ap suc (ih l) ∙ sym (suc-add _ _)
    go false e ih = absurd (omega arith)

one_more : (base : ℕ) (s : List ℕ) (b : ℕ) → run_of base s ≡ length s → is_digit base b ≡ true → run_of base (s ++ b ∷ []) ≡ length (s ++ b ∷ [])
unfolding head_of
one_more base s b h e = head_append (is_digit base) s (b ∷ []) h ∙ ap (λ x. length s + cond x 1 0) e ∙ sym (length-append s (b ∷ []))

face_digit : (base d : ℕ) → base ≤ 16 → d < base → is_digit base (face_of d) ≡ true
face_digit base d h l = ap (λ x. ltb x base) (face_worth d (omega arith)) ∙ lt-ltb d base l

pub low_each : (base : ℕ) → 1 ≤ base → base ≤ 16 → (n v : ℕ) → run_of base (low_of base n v) ≡ length (low_of base n v)
unfolding head_of low_of
low_each base l h zero v = refl
low_each base l h (suc n) v = one_more base (low_of base n (v / base)) (face_of (v % base)) (low_each base l h n (v / base)) (face_digit base (v % base) h (mod-lt v l))

pub low_length : (base n v : ℕ) → length (low_of base n v) ≡ n
unfolding low_of
low_length base zero v = refl
low_length base (suc n) v = length-append (low_of base n (v / base)) (face_of (v % base) ∷ []) ∙ (let e : length (low_of base n (v / base)) ≡ n = low_length base n (v / base) in omega arith)

decimal_each : (n v : ℕ) → run_of 10 (decimal_in n v) ≡ length (decimal_in n v)
unfolding head_of decimal_in
decimal_each zero v = refl
decimal_each (suc n) v = go (ltb v 10) refl (decimal_each n (v / 10))
  where
    go : (t : Bool) → ltb v 10 ≡ t → run_of 10 (decimal_in n (v / 10)) ≡ length (decimal_in n (v / 10))
        → run_of 10 (cond t (face_of v ∷ []) (decimal_in n (v / 10) ++ face_of (v % 10) ∷ [])) ≡ length (cond t (face_of v ∷ []) (decimal_in n (v / 10) ++ face_of (v % 10) ∷ []))
    go true e ih = ap (λ x. cond x 1 0) (face_digit 10 v (omega arith) (ltb-true v 10 e))
    go false e ih = one_more 10 (decimal_in n (v / 10)) (face_of (v % 10)) ih (face_digit 10 (v % 10) (omega arith) (omega arith))

decimal_some : (n v : ℕ) → length (decimal_in (suc n) v) ≡ 0 → ⊥
unfolding decimal_in
decimal_some n v = go (ltb v 10)
  where
    go : (t : Bool) → length (cond t (face_of v ∷ []) (decimal_in n (v / 10) ++ face_of (v % 10) ∷ [])) ≡ 0 → ⊥
    go true e = omega arith
    go false e = let l : length (decimal_in n (v / 10) ++ face_of (v % 10) ∷ []) ≡ length (decimal_in n (v / 10)) + 1 = length-append (decimal_in n (v / 10)) (face_of (v % 10) ∷ []) in omega arith

pub decimal_digits : (n v : ℕ) → Digits 10 (decimal_in (suc n) v)
decimal_digits n v = record { some = decimal_some n v; each = decimal_each (suc n) v }

pub low_digits : (base : ℕ) → 1 ≤ base → base ≤ 16 → (n v : ℕ) → 1 ≤ n → Digits base (low_of base n v)
low_digits base l h n v k = record { some = λ e. (let m : length (low_of base n v) ≡ n = low_length base n v in omega arith); each = low_each base l h n v }
