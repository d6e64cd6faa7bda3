-- "Branch targets count from PC + 4, J and JAL take the top 4 bits of PC + 4, links are PC + 8": document 01, all modulo 2^32.
use Rattle.std.specs.Prelude.{ℕ, ◌+◌, ◌*◌, ◌/◌, ◌%◌, ◌^◌, pos, ◌+ℤ◌, ◌*ℤ◌}
use Rattle.word.specs.Number.{signed, bits}

-- the offset counts words, and may be below 0
abbrev pub branch_of : ℕ → ℕ → ℕ
branch_of pc offset = bits 32 (pos (pc + 4) +ℤ signed 16 (offset % 2 ^ 16) *ℤ pos 4)

-- the index counts words within the region of 2^28 bytes
abbrev pub jump_of : ℕ → ℕ → ℕ
jump_of pc index = (pc + 4) % 2 ^ 32 / 2 ^ 28 * 2 ^ 28 + index % 2 ^ 26 * 4

abbrev pub link_of : ℕ → ℕ
link_of pc = (pc + 8) % 2 ^ 32
