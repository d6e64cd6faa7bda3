-- Bytes and halves of the word around a place: a word's bytes stand from the lowest address on, so from the lowest up.
use Rattle.std.specs.Prelude.{ℕ, ◌*◌, ◌/◌, ◌%◌, ◌^◌}
use Rattle.word.specs.Little.{from_bytes, to_bytes}
use Rattle.word.specs.Number.{extended}
use Rattle.memory.specs.Memory.{stored_at}
use Rattle.alu.specs.Merge.{lwl_of, lwr_of, swl_of, swr_of}
use Rattle.isa.specs.declared.instr.LoadOp.{LoadOp}
use Rattle.isa.specs.declared.instr.LoadOp.TheVariants.{Lb, Lh, Lwl, Lw, Lbu, Lhu, Lwr}
use Rattle.isa.specs.declared.instr.StoreOp.{StoreOp}
use Rattle.isa.specs.declared.instr.StoreOp.TheVariants.{Sb, Sh, Swl, Sw, Swr}

-- the word's bytes from the place on
unfoldable pub from_place : ℕ → ℕ → ℕ
from_place word at = word / 256 ^ (at % 4)

-- what a load gives the register, which holds old
abbrev pub load_part : LoadOp → ℕ → ℕ → ℕ → ℕ
load_part Lb old word at = extended 8 (from_place word at)
load_part Lh old word at = extended 16 (from_place word at)
load_part Lwl old word at = lwl_of old word (at % 4)
load_part Lw old word at = word
load_part Lbu old word at = from_place word at % 2 ^ 8
load_part Lhu old word at = from_place word at % 2 ^ 16
load_part Lwr old word at = lwr_of old word (at % 4)

-- the word with the low n bytes of x at the place, which for n bytes is a multiple of n
unfoldable pub with_bytes : ℕ → ℕ → ℕ → ℕ → ℕ
with_bytes n word at x = from_bytes (stored_at n (to_bytes 4 word) (at % 4 / n * n) x)

-- what a store of x makes of the word
abbrev pub store_part : StoreOp → ℕ → ℕ → ℕ → ℕ
store_part Sb x word at = with_bytes 1 word at x
store_part Sh x word at = with_bytes 2 word at x
store_part Swl x word at = swl_of x word (at % 4)
store_part Sw x word at = x
store_part Swr x word at = swr_of x word (at % 4)
