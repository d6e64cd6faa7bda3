-- Registers as they are read, and the next PC.
use Rattle.std.specs.Prelude.{ℕ, ◌+◌, ◌%◌, ◌^◌, cond, List, ◌==◌, slice_index}

-- register 0 reads 0; a register's number has five bits
unfoldable pub reg_of : List ℕ → ℕ → ℕ
reg_of regs i = cond (i % 32 == 0) 0 (slice_index regs (i % 32))

-- document 01, "One step": "itself + 4", modulo 2^32
abbrev pub after_of : ℕ → ℕ
after_of pc = (pc + 4) % 2 ^ 32
