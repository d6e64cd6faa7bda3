-- SRA by the word alone, and what each bit of a shifted word is.
use Rattle.std.proofs.Common.{◌≡◌, ℕ, ◌+◌, ◌-◌, ◌*◌, ◌/◌, ◌%◌, ◌^◌, ◌<◌, ◌≤◌, Bool, true, false, not, sym, refl, ap, ◌∙◌, arith, eq-eqb}
use native.Mathlib.Decide.{dec_lt}
use lib.Pow.{shr_le}
use Rattle.word.specs.Map.{bit}
use Rattle.word.proofs.Signs.{below_half, above_ones}
use Rattle.word.proofs.BitLaws as laws
use Rattle.alu.specs.Shift.{sll_of, srl_of, sra_of}

module _ (x s : ℕ) where
  pub sra_plain : x < 2 ^ 31 → sra_of x s ≡ x / 2 ^ (s % 32)
  sra_plain h = rw (below_half (2 ^ 31) x h) (omega (arith, shr_le x (s % 32)))

  pub sra_negative : 2 ^ 31 ≤ x → x < 2 ^ 32 → sra_of x s ≡ 2 ^ 32 - 1 - (2 ^ 32 - 1 - x) / 2 ^ (s % 32)
  sra_negative h fits = rw (above_ones (2 ^ 31) x h fits) (omega (arith, shr_le (2 ^ 32 - 1 - x) (s % 32)))

  pub srl_bit : (k : ℕ) → bit k (srl_of x s) ≡ bit (s % 32 + k) x
  srl_bit k = laws.shr_bit (s % 32) k x

  pub sll_bit : (k : ℕ) → s % 32 + k < 32 → bit (s % 32 + k) (sll_of x s) ≡ bit k x
  sll_bit k h = laws.low_bit 32 (s % 32 + k) (x * 2 ^ (s % 32)) h ∙ laws.shl_bit (s % 32) k x

  pub sll_zero : (k : ℕ) → k < s % 32 → bit k (sll_of x s) ≡ false
  sll_zero k h = laws.low_bit 32 k (x * 2 ^ (s % 32)) (omega arith) ∙ laws.zero_bit (s % 32) k x h

not_not : (b : Bool) → not (not b) ≡ b
not_not true = refl
not_not false = refl

-- each bit comes from the one s higher, and those for which there is none from the sign, bit 31
module _ (x s k : ℕ) (fits : x < 2 ^ 32) (inside : k < 32) where
  abbrev from : ℕ
  from = s % 32 + k

  abbrev ones : ℕ
  ones = 2 ^ 32 - 1 - x

  top : 2 ^ 31 ≤ x → bit 31 x ≡ true
  top h = eq-eqb (x / 2 ^ 31 % 2) 1 (omega arith)

  turned : 2 ^ 31 ≤ x → bit k (sra_of x s) ≡ not (bit from ones)
  turned h =
      ap (bit k) (sra_negative x s h fits)
      ∙ laws.complement_bit 32 k (ones / 2 ^ (s % 32)) inside (omega (arith, shr_le ones (s % 32)))
      ∙ ap not (laws.shr_bit (s % 32) k ones)

  pub sra_bit : from < 32 → bit k (sra_of x s) ≡ bit from x
  sra_bit h = by (dec_lt x (2 ^ 31))
    where
      by : Dec (x < 2 ^ 31) → bit k (sra_of x s) ≡ bit from x
      by (yes p) = ap (bit k) (sra_plain x s p) ∙ laws.shr_bit (s % 32) k x
      by (no p) = turned (omega arith) ∙ ap not (laws.complement_bit 32 from x h fits) ∙ not_not (bit from x)

  pub sra_sign : 32 ≤ from → bit k (sra_of x s) ≡ bit 31 x
  sra_sign h = by (dec_lt x (2 ^ 31))
    where
      by : Dec (x < 2 ^ 31) → bit k (sra_of x s) ≡ bit 31 x
      by (yes p) = ap (bit k) (sra_plain x s p) ∙ laws.shr_bit (s % 32) k x ∙ laws.no_bit 31 from x p (omega arith) ∙ sym (laws.no_bit 31 31 x p (omega arith))
      by (no p) = turned (omega arith) ∙ ap not (laws.no_bit 32 from ones (omega arith) h) ∙ sym (top (omega arith))
