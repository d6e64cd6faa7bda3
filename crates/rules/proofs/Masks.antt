-- "Within a mask" is the same said by the mask and bit by bit, and what is masked lies within, as where MTC0 writes a register's mask bits.
use Prim.Native.Nat.{ℕ, ◌^◌, ◌<◌}
use mathlib.Core.Path.{◌≡◌, sym, ◌∙◌}
use mathlib.Core.Bool.{true}
use native.Mathlib.Nat.{lt_of_le_of_lt}
use borrow.Author.Tests.{eqb-true, eq-eqb}
use lib.Bits.{bit_and, and_le_r}
use Rattle.word.specs.Map.{bit}
use Rattle.word.specs.Mask.{within}
use Rattle.word.proofs.BitLaws.{and_bit}
use Rattle.word.proofs.Cond.{both}
use Rattle.word.proofs.Within as bits
use Rattle.word.proofs.Within.{BitsIn}

pub within_bits : (m x : ℕ) → m < 2 ^ 32 → within m x ≡ true → BitsIn 32 m x
within_bits m x h e = bits.masked_within 32 m x h (eqb-true _ 0 e)

pub bits_within : (m x : ℕ) → m < 2 ^ 32 → x < 2 ^ 32 → BitsIn 32 m x → within m x ≡ true
bits_within m x h word e = eq-eqb _ 0 (bits.within_masked 32 m x h word e)

pub masked_within : (m x : ℕ) → m < 2 ^ 32 → within m (bit_and x m) ≡ true
masked_within m x h =
    bits_within m (bit_and x m) h (lt_of_le_of_lt (and_le_r x m) h) (λ k _ on. (both (bit k x) (bit k m) (sym (and_bit k x m) ∙ on)).1)
