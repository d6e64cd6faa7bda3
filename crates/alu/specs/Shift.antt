-- Shifts, by the low five bits of s.
use Rattle.std.specs.Prelude.{ℕ, ◌*◌, ◌/◌, ◌%◌, ◌^◌}
use Rattle.std.specs.Int.Signed.{shr_z}
use Rattle.word.specs.Number.{signed, bits}

abbrev pub sll_of : ℕ → ℕ → ℕ
sll_of x s = x * 2 ^ (s % 32) % 2 ^ 32

abbrev pub srl_of : ℕ → ℕ → ℕ
srl_of x s = x / 2 ^ (s % 32)

-- the signed number divided by the power and rounded down
abbrev pub sra_of : ℕ → ℕ → ℕ
sra_of x s = bits 32 (shr_z (signed 32 x) (2 ^ (s % 32)))
