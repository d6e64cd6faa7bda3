-- Document 01, "Marked examples", in its order: what the definitions compute, and what the document says.
use Rattle.std.specs.Prelude.{ℕ, ◌+◌, List, [], ◌∷◌, get_or}
use Rattle.word.specs.Little.{to_bytes}
use Rattle.alu.specs.Shift.{sra_of}
use Rattle.alu.specs.Sum.{sltiu_of}
use Rattle.alu.specs.HiLo.{mult_of, multu_of, div_of}
use Rattle.alu.specs.Merge.{lwl_of, lwr_of}
use Rattle.alu.specs.declared.product.HiLo.{HiLo}
use Rattle.board.specs.Places.{device_base}
use Rattle.bus.specs.Offset.{offset_of}
use Rattle.cp0.specs.Entry.{exc_code}
use Rattle.cp0.specs.Word.{pushed_of, popped_of}
use Rattle.cp0.specs.declared.status.Status.{Status}
use Rattle.step.specs.World.{World}
use Rattle.step.specs.Step.{step_of}
use Rattle.marked.specs.World.{no_roms, world_at}

-- ---- answers as the document's numbers

abbrev moved : (Status → Status) → ℕ → List ℕ
moved move word = (move (record { word = word })).word ∷ []

-- HI, then LO
abbrev hilo : HiLo → List ℕ
hilo p = p.hi ∷ p.lo ∷ []

-- ExcCode and the target register after the step of an ADDI: the target is register 8, the source register 9
abbrev stepped : World → List ℕ
stepped w = exc_code w.cpu.core.cp0.cause ∷ get_or w.cpu.regs 8 0 ∷ []

abbrev word : ℕ → List ℕ
word x = x ∷ []

-- HI and LO before the instruction
abbrev before : HiLo
before = record { hi = 0; lo = 0 }

-- ---- the table

infix 70 ◌is◌
pub data Example : Type 0 where
  ◌is◌ : List ℕ → List ℕ → Example

abbrev pub marked : List Example
marked =
    -- entry, and RFE
    moved pushed_of 0x11400003 is (0x1240000C ∷ [])
    ∷ moved pushed_of 0x1040FF03 is (0x1040FF0C ∷ [])
    ∷ moved popped_of 0x1240000C is (0x11400003 ∷ [])
    ∷ moved popped_of 0x1040003C is (0x1040003F ∷ [])
    -- MULT and MULTU of 0xFFFFFFFF by itself
    ∷ hilo (mult_of 0xFFFFFFFF 0xFFFFFFFF) is (0 ∷ 1 ∷ [])
    ∷ hilo (multu_of 0xFFFFFFFF 0xFFFFFFFF) is (0xFFFFFFFE ∷ 1 ∷ [])
    -- DIV of -7 by 2; SRA of 0x80000000 by 31
    ∷ hilo (div_of 0xFFFFFFF9 2 before) is (0xFFFFFFFF ∷ 0xFFFFFFFD ∷ [])
    ∷ word (sra_of 0x80000000 31) is (0xFFFFFFFF ∷ [])
    -- SLTIU of 5 with 0xFFFF; ADDI 0x7FFFFFFF + 1, as the instruction `addi $8, $9, 1`
    ∷ word (sltiu_of 5 0xFFFF) is (1 ∷ [])
    ∷ stepped (step_of no_roms (world_at (to_bytes 4 0x21280001) 0x11223344 0x7FFFFFFF)) is (12 ∷ 0x11223344 ∷ [])
    -- word 0x44332211, register 0xAABBCCDD, address 1 modulo 4: LWL, LWR
    ∷ word (lwl_of 0xAABBCCDD 0x44332211 1) is (0x2211CCDD ∷ [])
    ∷ word (lwr_of 0xAABBCCDD 0x44332211 1) is (0xAA443322 ∷ [])
    -- line 6, printer 2
    ∷ word (device_base + offset_of 6 2 0) is (0x100001F0 ∷ [])
    ∷ []

-- ---- aids to proofs: nothing that a reader must believe

abbrev pub computed : Example → List ℕ
computed (c is t) = c

abbrev pub told : Example → List ℕ
told (c is t) = t
