-- The number at a place where digits stand, alone or behind `0x`, and no further digit behind them: the one law of reading, over the base.
use mathlib.Core.Path.{◌≡◌, refl, ap, sym, ◌∙◌}
use mathlib.Core.Bool.{Bool, true, false, cond, ◌&&◌, ◌||◌, false≢true}
use mathlib.Core.List.{List, [], ◌∷◌, ◌++◌}
use Prim.Native.Nat.{ℕ, suc, ◌+◌, ◌≤◌, ◌^◌}
use native.Mathlib.Nat.{add-zero}
use native.Mathlib.Omega.{arith}
use borrow.Author.Tests.{ne_eqb}
use lib.Dec.{eqb}
use lib.ListN.{length, get_or, drop}
use lib.Seq.{drop-append_seam, drop-append-add, take-append_seam, get_or-append_seam, get_or-append-add}
use Rattle.text.specs.Head.{head_of}
use Rattle.text.specs.Digit.{digit_of, is_digit, run_of, value_of}
use Rattle.text.specs.Number.{held_of, answer_of, digits_of, digits_at, is_hex, decimal_at, number_of}
use Rattle.std.specs.Prelude.{Err}
use Rattle.text.specs.declared.found.NoNumber.TheVariants.{TooLarge}
use Rattle.text.proofs.Values.{not_held}
use Rattle.text.proofs.Digits.{Digits, head_append}

-- what stands before the digits: nothing, `0x` or `0X`
pub data Lead : Type 0 where
  plain : Lead
  small : Lead
  large : Lead

abbrev pub base_of : Lead → ℕ
base_of plain = 10
base_of small = 16
base_of large = 16

abbrev pub lead_of : Lead → List ℕ
lead_of plain = []
lead_of small = 48 ∷ 120 ∷ []
lead_of large = 48 ∷ 88 ∷ []

-- what follows begins with no digit, and with no `x`, which would make `0` a lead
pub record Ends (base : ℕ) (rest : List ℕ) : Type 0 where
  pub digit : run_of base rest ≡ 0
  pub lower : eqb (get_or rest 0 0) 120 ≡ false
  pub upper : eqb (get_or rest 0 0) 88 ≡ false

digits_read : (base first from : ℕ) (line s rest : List ℕ) → drop from line ≡ s ++ rest → Digits base s → run_of base rest ≡ 0
    → digits_at first from base line ≡ answer_of (held_of (value_of base s)) first (from + length s)
unfolding digits_at digits_of
digits_read base first from line s rest e d none =
    let run : run_of base (s ++ rest) ≡ length s = head_append (is_digit base) s rest d.each ∙ ap (λ n. length s + n) none ∙ add-zero (length s) in
    rw (e, run, ne_eqb (length s) 0 d.some, take-append_seam s rest)

second : (x y : Bool) (h n : ℕ) → cond x (suc (cond y (suc h) 0)) 0 ≡ suc (suc n) → y ≡ true
second x true h n e = refl
second true false h n e = absurd (omega arith)
second false false h n e = absurd (omega arith)

-- no second byte of a decimal number is an `x`
second_byte : (k : ℕ) → is_digit 10 k ≡ false → (s rest : List ℕ) → Digits 10 s → eqb (get_or rest 0 0) k ≡ false → eqb (get_or (s ++ rest) 1 0) k ≡ false
unfolding head_of
second_byte k other [] rest d e = absurd (d.some refl)
second_byte k other (b ∷ []) rest d e = e
second_byte k other (b ∷ c ∷ s) rest d e =
    let digit : is_digit 10 c ≡ true = second (is_digit 10 b) (is_digit 10 c) (head_of (is_digit 10) s) (length s) d.each in
    ne_eqb c k (λ same. false≢true (sym other ∙ ap (is_digit 10) (sym same) ∙ digit))

-- `0` and an `x`, in a line of which the two bytes are known
module _ (line : List ℕ) (from a b : ℕ) (p : get_or line from 0 ≡ a) (q : get_or line (from + 1) 0 ≡ b) where
  asked : is_hex line from ≡ eqb a 48 && (eqb b 120 || eqb b 88)
  unfolding is_hex
  asked = ap (λ x. eqb x 48 && (eqb (get_or line (from + 1) 0) 120 || eqb (get_or line (from + 1) 0) 88)) p ∙ ap (λ y. eqb a 48 && (eqb y 120 || eqb y 88)) q

no_lead : (a : Bool) {x y : Bool} → x ≡ false → y ≡ false → a && (x || y) ≡ false
no_lead true p q = rw (p, q)
no_lead false p q = refl

module _ (before s rest : List ℕ) where
  not_hex : Digits 10 s → Ends 10 rest → is_hex (before ++ (s ++ rest)) (length before) ≡ false
  unfolding digit_of
  not_hex d e =
      asked _ (length before) _ _ refl (get_or-append-add before (s ++ rest) 1 0)
      ∙ no_lead (eqb (get_or (before ++ (s ++ rest)) (length before) 0) 48) (second_byte 120 refl s rest d e.lower) (second_byte 88 refl s rest d e.upper)

  led : (x : ℕ) → eqb x 120 || eqb x 88 ≡ true → Digits 16 s → run_of 16 rest ≡ 0
      → number_of (before ++ 48 ∷ x ∷ (s ++ rest)) (length before) ≡ answer_of (held_of (value_of 16 s)) (length before) (length before + 2 + length s)
  unfolding number_of
  led x is d e =
      let hex : is_hex (before ++ 48 ∷ x ∷ (s ++ rest)) (length before) ≡ true =
      asked _ (length before) 48 x (get_or-append_seam before 48 (x ∷ (s ++ rest)) 0) (get_or-append-add before (48 ∷ x ∷ (s ++ rest)) 1 0) ∙ is in
      ap (λ b. cond b (digits_at (length before) (length before + 2) 16 (before ++ 48 ∷ x ∷ (s ++ rest))) (decimal_at (before ++ 48 ∷ x ∷ (s ++ rest)) (length before))) hex
      ∙ digits_read 16 (length before) (length before + 2) (before ++ 48 ∷ x ∷ (s ++ rest)) s rest (drop-append-add before (48 ∷ x ∷ (s ++ rest)) 2) d e

  pub number_read : (w : Lead) → Digits (base_of w) s → Ends (base_of w) rest
      → number_of (before ++ (lead_of w ++ (s ++ rest))) (length before)
      ≡ answer_of (held_of (value_of (base_of w) s)) (length before) (length before + length (lead_of w) + length s)
  unfolding number_of
  number_read plain d e =
      ap (λ b. cond b (digits_at (length before) (length before + 2) 16 (before ++ (s ++ rest))) (decimal_at (before ++ (s ++ rest)) (length before))) (not_hex d e)
      ∙ digits_read 10 (length before) (length before) (before ++ (s ++ rest)) s rest (drop-append_seam before (s ++ rest)) d e.digit
      ∙ ap (λ n. answer_of (held_of (value_of 10 s)) (length before) (n + length s)) (sym (add-zero (length before)))
  number_read small d e = led 120 refl d e.digit
  number_read large d e = led 88 refl d e.digit

  -- a number that 64 bits do not hold is refused at its first byte
  pub too_large : (w : Lead) → Digits (base_of w) s → Ends (base_of w) rest → 2 ^ 64 ≤ value_of (base_of w) s
      → number_of (before ++ (lead_of w ++ (s ++ rest))) (length before) ≡ Err (TooLarge (length before))
  too_large w d e h = number_read w d e ∙ ap (λ t. answer_of t (length before) (length before + length (lead_of w) + length s)) (not_held _ h)
