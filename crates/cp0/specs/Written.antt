-- Document 01, "CP0": "MTC0 writes only mask bits: Index bits 8-13, EntryHi, EntryLo, Status, Cause IP[0] and IP[1]; to Random, BadVAddr, EPC nothing."
-- The masks of EntryHi, EntryLo and Status are those of the rules.
use Rattle.std.specs.Prelude.{ℕ}
use Rattle.word.specs.Mask.{overlaid_of}
use Rattle.isa.specs.declared.instr.ControlRegister.{ControlRegister}
use Rattle.isa.specs.declared.instr.ControlRegister.TheVariants.{Index, Random, EntryLo, BadVAddr, EntryHi, Status, Cause, Epc}
use Rattle.cp0.specs.declared.registers.Cp0.{Cp0}
use Rattle.cp0.specs.Registers.{read_of, with_register}

abbrev pub index_mask : ℕ
index_mask = 0x3F00

abbrev pub entry_hi_mask : ℕ
entry_hi_mask = 0xFFFFFFC0

abbrev pub entry_lo_mask : ℕ
entry_lo_mask = 0xFFFFFF00

abbrev pub status_mask : ℕ
status_mask = 0x1740FF3F

-- IP[0] and IP[1] are bits 8 and 9
abbrev pub cause_mask : ℕ
cause_mask = 0x300

abbrev pub mask_of : ControlRegister → ℕ
mask_of Index = index_mask
mask_of EntryHi = entry_hi_mask
mask_of EntryLo = entry_lo_mask
mask_of Status = status_mask
mask_of Cause = cause_mask
mask_of Random = 0
mask_of BadVAddr = 0
mask_of Epc = 0

-- ---- aids to proofs: nothing that a reader must believe

unfoldable pub written_of : ControlRegister → ℕ → Cp0 → Cp0
written_of r word c = with_register r (overlaid_of (mask_of r) (read_of r c) word) c
