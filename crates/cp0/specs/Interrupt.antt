-- Document 01, "One step": "If IEc is 1 and IP and IM share a bit, the step is interrupt entry." IEc is bit 0 of Status.
use Rattle.std.specs.Prelude.{ℕ, ◌+◌, ◌/◌, ◌%◌, ◌^◌, Bool, not, ◌&&◌, eqb}
use Rattle.std.specs.Int.Bits.{bit_and}
use Rattle.word.specs.Map.{bit, with_bit}

abbrev pub ip : ℕ → ℕ
ip cause = cause / 2 ^ 8 % 2 ^ 8

abbrev pub im : ℕ → ℕ
im status = status / 2 ^ 8 % 2 ^ 8

abbrev pub interrupts_of : ℕ → ℕ → Bool
interrupts_of status cause = bit 0 status && not (eqb (bit_and (ip cause) (im status)) 0)

-- Cause with IP[line] on or off, as told
abbrev pub with_line : ℕ → Bool → ℕ → ℕ
with_line line on cause = with_bit (8 + line) on cause
