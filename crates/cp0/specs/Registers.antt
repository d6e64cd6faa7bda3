-- The eight registers of CP0 by their names: what one reads, and CP0 with another word in one.
use Rattle.std.specs.Prelude.{ℕ}
use Rattle.isa.specs.declared.instr.ControlRegister.{ControlRegister}
use Rattle.isa.specs.declared.instr.ControlRegister.TheVariants.{Index, Random, EntryLo, BadVAddr, EntryHi, Status, Cause, Epc}
use Rattle.cp0.specs.declared.registers.Cp0.{Cp0}

abbrev pub read_of : ControlRegister → Cp0 → ℕ
read_of Index c = c.index
read_of Random c = c.random
read_of EntryLo c = c.entry_lo
read_of BadVAddr c = c.bad_vaddr
read_of EntryHi c = c.entry_hi
read_of Status c = c.status
read_of Cause c = c.cause
read_of Epc c = c.epc

-- register r holds the word, and each other what it held
unfoldable pub with_register : ControlRegister → ℕ → Cp0 → Cp0
with_register Index word c =
    record { index = word; random = c.random; entry_hi = c.entry_hi; entry_lo = c.entry_lo; bad_vaddr = c.bad_vaddr; status = c.status; cause = c.cause; epc = c.epc }
with_register Random word c =
    record { random = word; index = c.index; entry_hi = c.entry_hi; entry_lo = c.entry_lo; bad_vaddr = c.bad_vaddr; status = c.status; cause = c.cause; epc = c.epc }
with_register EntryLo word c =
    record { entry_lo = word; index = c.index; random = c.random; entry_hi = c.entry_hi; bad_vaddr = c.bad_vaddr; status = c.status; cause = c.cause; epc = c.epc }
with_register BadVAddr word c =
    record { bad_vaddr = word; index = c.index; random = c.random; entry_hi = c.entry_hi; entry_lo = c.entry_lo; status = c.status; cause = c.cause; epc = c.epc }
with_register EntryHi word c =
    record { entry_hi = word; index = c.index; random = c.random; entry_lo = c.entry_lo; bad_vaddr = c.bad_vaddr; status = c.status; cause = c.cause; epc = c.epc }
with_register Status word c =
    record { status = word; index = c.index; random = c.random; entry_hi = c.entry_hi; entry_lo = c.entry_lo; bad_vaddr = c.bad_vaddr; cause = c.cause; epc = c.epc }
with_register Cause word c =
    record { cause = word; index = c.index; random = c.random; entry_hi = c.entry_hi; entry_lo = c.entry_lo; bad_vaddr = c.bad_vaddr; status = c.status; epc = c.epc }
with_register Epc word c =
    record { epc = word; index = c.index; random = c.random; entry_hi = c.entry_hi; entry_lo = c.entry_lo; bad_vaddr = c.bad_vaddr; status = c.status; cause = c.cause }

-- TLBR: EntryHi and EntryLo
abbrev pub with_entry : ℕ → ℕ → Cp0 → Cp0
with_entry high low c = with_register EntryLo low (with_register EntryHi high c)
