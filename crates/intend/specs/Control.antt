-- The words of COP0. Document 01, "CP0": "needs kernel mode or CU[0], else code 11 with CE 0, before any other test."
use Rattle.std.specs.Prelude.{ℕ, ◌%◌, cond, List, length}
use Rattle.word.specs.Mask.{overlaid_of}
use Rattle.isa.specs.declared.instr.Control.{Control}
use Rattle.isa.specs.declared.instr.Control.TheVariants.{Undefined, Mfc0, Mtc0, Tlbr, Tlbwi, Tlbwr, Tlbp, Rfe}
use Rattle.isa.specs.declared.instr.ControlRegister.{ControlRegister}
use Rattle.isa.specs.declared.instr.ControlRegister.TheVariants.{Index, Status}
use Rattle.cp0.specs.Privilege.{usable_of}
use Rattle.cp0.specs.Registers.{read_of}
use Rattle.cp0.specs.Written.{mask_of}
use Rattle.cp0.specs.Word.{popped_of}
use Rattle.cp0.specs.declared.registers.Cp0.{Cp0}
use Rattle.tlb.specs.Entry.{read_at}
use Rattle.tlb.specs.Search.{found_in}
use Rattle.tlb.specs.Index.{index_of, probed_of}
use Rattle.tlb.specs.declared.Row.{Row}
use Rattle.intend.specs.Codes.{code_ri, code_cpu}
use Rattle.intend.specs.Operand.{reg_of}
use Rattle.intend.specs.declared.intent.Intent.{Intent}
use Rattle.intend.specs.declared.intent.Intent.TheVariants.{Write, SetControl, SetEntry, SetRow, Trap}

-- MTC0: the word that is to be there, written under the register's mask
abbrev pub written_word : ControlRegister → ℕ → Cp0 → ℕ
written_word r word cp0 = overlaid_of (mask_of r) (read_of r cp0) word

-- the row that TLBWI and TLBWR write
abbrev pub entry_of : Cp0 → Row
entry_of cp0 = record { high = cp0.entry_hi; low = cp0.entry_lo }

-- RFE: Status with both stacks popped
abbrev pub popped_word : Cp0 → ℕ
popped_word cp0 = (popped_of (record { word = cp0.status })).word

-- t is the translation table; an index is taken modulo its size
module _ (cp0 : Cp0) (regs : List ℕ) (t : List Row) where
  unfoldable pub function_of : Control → Intent
  function_of Undefined = Trap code_ri 0
  function_of (Mfc0 rt r) = Write rt (read_of r cp0)
  function_of (Mtc0 rt r) = SetControl r (written_word r (reg_of regs rt) cp0)
  function_of Tlbr = SetEntry (read_at t (index_of cp0.index))
  function_of Tlbwi = SetRow (index_of cp0.index % length t) (entry_of cp0)
  function_of Tlbwr = SetRow (index_of cp0.random % length t) (entry_of cp0)
  function_of Tlbp = SetControl Index (probed_of (found_in cp0.entry_hi t))
  function_of Rfe = SetControl Status (popped_word cp0)

  unfoldable pub control_of : Control → Intent
  control_of control = cond (usable_of cp0.status) (function_of control) (Trap code_cpu 0)
