-- `alu::quotient::div` meets its contract: quotient and remainder are no further from 0 than the dividend, so only the quotient of -2^31 and -1 wraps.
use Rattle.std.proofs.Common.{◌≡◌, ℕ, ◌+◌, ◌-◌, ◌/◌, ◌%◌, ◌^◌, ◌≤◌, ◌<◌, Bool, true, false, ℤ, pos, negsuc, refl, ap, ap₂, ◌∙◌, arith, ne_eqb}
use Rattle.std.proofs.Math.Nat.{div-le_self, mod-le}
use native.Mathlib.Decide.{dec_lt}
use lib.IntN.{nat_abs}
use lib.Signed.{lt_z, quot_z, rem_z}
use mir.Syntax.{w32}
use mir.Val.{to_z, of_z}
use Rattle.std.proofs.lemmas.Int.{ints, of_z-to_z}
use Rattle.word.specs.Number.{signed, bits, with_sign}
use Rattle.word.proofs.Signs.{below_half, above_half, negative_size, signs, quotient, remainder}
use Rattle.alu.proofs.quotient.div.Goals as goal

size_of : (s : Bool) (n : ℕ) → nat_abs (with_sign s n) ≡ n
size_of true n = negative_size n
size_of false n = refl

cast_is : (x : ℕ) → x < 2 ^ 32 → to_z w32 x ≡ signed 32 x
cast_is x h = grind (arith, ints)

size_small : (x : ℕ) → x < 2 ^ 32 → nat_abs (signed 32 x) ≤ 2 ^ 31
size_small x h = by (dec_lt x (2 ^ 31))
  where
    by : Dec (x < 2 ^ 31) → nat_abs (signed 32 x) ≤ 2 ^ 31
    by (yes p) = rw (below_half (2 ^ 31) x p) (omega arith)
    by (no p) = rw (above_half (2 ^ 31) x (omega arith), negative_size (2 ^ 31 + 2 ^ 31 - x)) (omega arith)

bits_are : (z : ℤ) → nat_abs z ≤ 2 ^ 31 → of_z w32 z ≡ bits 32 z
bits_are (pos a) h = omega arith
bits_are (negsuc a) h = omega arith

bits_small : (z : ℤ) → nat_abs z ≤ 2 ^ 31 → of_z w32 z < 2 ^ 32
bits_small (pos a) h = omega arith
bits_small (negsuc a) h = omega arith

module _ (z w : ℤ) (small : nat_abs z ≤ 2 ^ 31) where
  quotient_small : nat_abs (quot_z z w) ≤ 2 ^ 31
  quotient_small =
      let e : nat_abs (quot_z z w) ≡ nat_abs z / nat_abs w = ap nat_abs (quotient z w) ∙ size_of (signs z w) (nat_abs z / nat_abs w) in
      omega (arith, div-le_self (nat_abs z) (nat_abs w))

  remainder_small : nat_abs (rem_z z w) ≤ 2 ^ 31
  remainder_small =
      let e : nat_abs (rem_z z w) ≡ nat_abs z % nat_abs w = ap nat_abs (remainder z w) ∙ size_of (lt_z z (pos 0)) (nat_abs z % nat_abs w) in
      omega (arith, mod-le (nat_abs z) (nat_abs w))

module _ (z : ℤ) (small : nat_abs z ≤ 2 ^ 31) where
  -- a cast and back, as often as code does it
  stripped : of_z w32 (to_z w32 (bits 32 z)) ≡ bits 32 z
  stripped = of_z-to_z w32 (bits 32 z) (omega (arith, bits_are z small, bits_small z small))

  cast_back : of_z w32 (to_z w32 (of_z w32 z)) ≡ bits 32 z
  cast_back = of_z-to_z w32 (of_z w32 z) (bits_small z small) ∙ bits_are z small

there_and_back : (x : ℕ) (z : ℤ) → x < 2 ^ 32 → z ≡ to_z w32 x → to_z w32 (of_z w32 z) ≡ signed 32 x
there_and_back x z h e = ap (λ (v : ℤ). to_z w32 (of_z w32 v)) e ∙ ap (to_z w32) (of_z-to_z w32 x h) ∙ cast_is x h

pub returns : goal.returns
returns c =
    let x = c.args.x in
    let y = c.args.y in
    let z = signed 32 x in
    let w = signed 32 y in
    let small = size_small x (omega arith) in
    let a = there_and_back x c.cast_signed-a.result (omega arith) c.cast_signed-a.ensures in
    let b = there_and_back y c.cast_signed-b.result (omega arith) c.cast_signed-b.ensures in
    let hi : c.cast_unsigned.result ≡ bits 32 (rem_z z w) =
    c.cast_unsigned.ensures
    ∙ ap (λ (v : ℤ). of_z w32 (to_z w32 (of_z w32 v))) (c.wrapping_rem.ensures ∙ ap₂ rem_z a b)
    ∙ cast_back (rem_z z w) (remainder_small z w small) in
    let lo : c.cast_unsigned-2.result ≡ bits 32 (quot_z z w) =
    c.cast_unsigned-2.ensures
    ∙ ap (λ (v : ℤ). of_z w32 (to_z w32 (of_z w32 v)))
    (c.wrapping_div.ensures ∙ ap (λ (v : ℤ). to_z w32 (of_z w32 v)) (ap₂ quot_z a b))
    ∙ ap (λ (n : ℕ). of_z w32 (to_z w32 n)) (cast_back (quot_z z w) (quotient_small z w small))
    ∙ stripped (quot_z z w) (quotient_small z w small) in
    rw (hi, lo, ne_eqb y 0 c.if-y-eq0.false)
