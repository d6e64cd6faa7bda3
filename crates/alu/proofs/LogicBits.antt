-- What each bit of a logical instruction's answer is.
use Rattle.std.proofs.Common.{◌≡◌, ℕ, ◌+◌, ◌^◌, ◌<◌, ◌≤◌, false, not, ◌&&◌, ◌||◌, ap, ◌∙◌}
use mathlib.Core.Bool.{beq}
use lib.Bits.{bit_or, or_lt}
use Rattle.word.specs.Map.{bit}
use Rattle.word.proofs.BitLaws as laws
use Rattle.alu.specs.Logic.{and_of, or_of, xor_of, nor_of, immediate, lui_of}

pub and_bit : (k x y : ℕ) → bit k (and_of x y) ≡ (bit k x && bit k y)
and_bit = laws.and_bit

pub or_bit : (k x y : ℕ) → bit k (or_of x y) ≡ (bit k x || bit k y)
or_bit = laws.or_bit

-- on where the two differ
pub xor_bit : (k x y : ℕ) → bit k (xor_of x y) ≡ not (beq (bit k x) (bit k y))
xor_bit = laws.xor_bit

pub nor_bit : (k x y : ℕ) → k < 32 → x < 2 ^ 32 → y < 2 ^ 32 → bit k (nor_of x y) ≡ not (bit k x || bit k y)
nor_bit k x y h fx fy = laws.complement_bit 32 k (bit_or x y) h (or_lt 32 x y fx fy) ∙ ap not (laws.or_bit k x y)

-- ANDI, ORI and XORI are AND, OR and XOR with this; LUI puts it in the upper half
pub immediate_low : (k imm : ℕ) → k < 16 → bit k (immediate imm) ≡ bit k imm
immediate_low k imm h = laws.low_bit 16 k imm h

pub immediate_high : (k imm : ℕ) → 16 ≤ k → bit k (immediate imm) ≡ false
immediate_high k imm h = laws.high_bit 16 k imm h

pub lui_low : (k imm : ℕ) → k < 16 → bit k (lui_of imm) ≡ false
lui_low k imm h = laws.zero_bit 16 k (immediate imm) h

pub lui_high : (k imm : ℕ) → bit (16 + k) (lui_of imm) ≡ bit k (immediate imm)
lui_high k imm = laws.shl_bit 16 k (immediate imm)
