-- The round trip: what is written for a number, in decimal or in hexadecimal, is read as that number, up to the byte right behind it.
use mathlib.Core.Path.{◌≡◌, refl, ap, ◌∙◌}
use mathlib.Core.List.{List, ◌++◌}
use Prim.Native.Nat.{ℕ, suc, ◌+◌, ◌<◌, ◌≤◌, ◌^◌}
use native.Mathlib.Nat.{add-zero}
use native.Mathlib.Omega.{arith}
use mathlib.Core.Bool.{Bool, true, false, cond}
use borrow.Author.Tests.{ltb-false}
use lib.Dec.{ltb}
use lib.ListN.{length}
use Rattle.text.specs.Number.{answer_of, held_of, number_of, read_of}
use Rattle.text.specs.Digit.{value_of}
use Rattle.text.specs.Spelt.{low_of, decimal_of, within_of, hex_of}
use Rattle.text.proofs.Values.{held}
use Rattle.text.proofs.Worth.{low_value, decimal_value}
use Rattle.text.proofs.Digits.{Digits, decimal_digits, low_digits}
use Rattle.text.proofs.Whole.{Lead, plain, small, base_of, lead_of, Ends, number_read}

-- the two ways of `put_decimal` and `put_hex`
pub data Way : Type 0 where
  decimal : Way
  hex : (digits : ℕ) → Way

abbrev pub written_of : Way → ℕ → List ℕ
written_of decimal v = decimal_of v
written_of (hex digits) v = hex_of digits v

-- so many hexadecimal digits are enough
abbrev pub Enough : Way → ℕ → Type 0
Enough decimal v = v < 2 ^ 64
Enough (hex digits) v = v < 16 ^ within_of digits

abbrev pub written_base : Way → ℕ
written_base decimal = 10
written_base (hex digits) = 16

within_some : (digits : ℕ) → 1 ≤ within_of digits
within_some digits = go (ltb digits 1) refl (ltb 16 digits)
  where
    go : (t : Bool) → ltb digits 1 ≡ t → (u : Bool) → 1 ≤ cond t 1 (cond u 16 digits)
    go true e u = omega arith
    go false e true = omega arith
    go false e false = ltb-false digits 1 e

module _ (before rest : List ℕ) (v : ℕ) (h : v < 2 ^ 64) where
  read : (w : Lead) (s : List ℕ) → Digits (base_of w) s → Ends (base_of w) rest → value_of (base_of w) s ≡ v
      → number_of (before ++ (lead_of w ++ (s ++ rest))) (length before) ≡ read_of v (length before + length (lead_of w) + length s)
  read w s d e worth =
      number_read before s rest w d e
      ∙ ap (λ x. answer_of (held_of x) (length before) (length before + length (lead_of w) + length s)) worth
      ∙ ap (λ t. answer_of t (length before) (length before + length (lead_of w) + length s)) (held v h)

  pub round_trip : (w : Way) → Enough w v → Ends (written_base w) rest
      → number_of (before ++ (written_of w v ++ rest)) (length before) ≡ read_of v (length before + length (written_of w v))
  round_trip decimal k e =
      read plain (decimal_of v) (decimal_digits 19 v) e (decimal_value 19 v (omega arith)) ∙ ap (λ n. read_of v (n + length (decimal_of v))) (add-zero (length before))
  round_trip (hex digits) k e =
      let one : 1 ≤ 16 = omega arith in
      let most : 16 ≤ 16 = omega arith in
      let behind : length before + 2 + length (low_of 16 (within_of digits) v) ≡ length before + suc (suc (length (low_of 16 (within_of digits) v))) = omega arith in
      read small (low_of 16 (within_of digits) v) (low_digits 16 one most (within_of digits) v (within_some digits)) e (low_value 16 one most (within_of digits) v k)
      ∙ ap (read_of v) behind
