-- Document 02, L5: "If a fetch, load or store meets two matches". Decided in the order of the step: "A step that would be interrupt entry fetches nothing"; then the fetch;
-- then, if it gave a word, the load or store that the word is. Every other word makes no access, and a fetch that raises is an exception.
use Rattle.std.specs.Prelude.{ℕ, Bool, cond, false, ◌||◌, List, Result, Ok, Err}
use Rattle.alu.specs.Sum.{addiu_of}
use Rattle.isa.specs.Opcode.{decode_of}
use Rattle.isa.specs.declared.instr.Instr.{Instr}
use Rattle.isa.specs.declared.instr.Instr.TheVariants.{Reserved, Unusable, Syscall, Break, Shift, ShiftBy, Register, Product, MoveFrom, MoveTo, JumpRegister, JumpLinkRegister, Jump, Compare, Sign, Immediate, LoadUpper, Load, Store}
use Rattle.isa.specs.declared.instr.Instr.TheVariants as instr
use Rattle.cp0.specs.Interrupt.{interrupts_of}
use Rattle.cp0.specs.declared.registers.Cp0.{Cp0}
use Rattle.tlb.specs.declared.Row.{Row}
use Rattle.reach.specs.declared.access.Kind.TheVariants as kind
use Rattle.reach.specs.declared.access.Width.TheVariants.{Four}
use Rattle.state.specs.declared.machine.Core.{Core}
use Rattle.intend.specs.Operand.{reg_of}
use Rattle.intend.specs.Access.{load_width, store_width, twice_of}
use Rattle.decide.specs.Lent.{Lent}
use Rattle.decide.specs.Fetch.{fetch_of}
use Rattle.reach.specs.declared.Fault.{Fault}

-- t is the translation table
module _ (cp0 : Cp0) (regs : List ℕ) (t : List Row) where
  abbrev pub access_meets_two : Instr → Bool
  access_meets_two (Load op rt base offset) = twice_of kind.Load (load_width op) cp0 t (addiu_of (reg_of regs base) offset)
  access_meets_two (Store op rt base offset) = twice_of kind.Store (store_width op) cp0 t (addiu_of (reg_of regs base) offset)
  access_meets_two Reserved = false
  access_meets_two (Unusable z) = false
  access_meets_two Syscall = false
  access_meets_two Break = false
  access_meets_two (Shift op rd rt by) = false
  access_meets_two (ShiftBy op rd rt rs) = false
  access_meets_two (Register op rd rs rt) = false
  access_meets_two (Product op rs rt) = false
  access_meets_two (MoveFrom half rd) = false
  access_meets_two (MoveTo half rs) = false
  access_meets_two (JumpRegister rs) = false
  access_meets_two (JumpLinkRegister rd rs) = false
  access_meets_two (Jump op target) = false
  access_meets_two (Compare op rs rt offset) = false
  access_meets_two (Sign op rs offset) = false
  access_meets_two (Immediate op rt rs imm) = false
  access_meets_two (LoadUpper rt imm) = false
  access_meets_two (instr.Control control) = false

  abbrev pub fetched_meets_two : Result ℕ Fault → Bool
  fetched_meets_two (Ok word) = access_meets_two (decode_of word)
  fetched_meets_two (Err fault) = false

-- core is as the tick left it
unfoldable pub meets_two_of : Core → List ℕ → List Row → Lent → Bool
meets_two_of core regs t lent =
    cond (interrupts_of core.cp0.status core.cp0.cause) false
    (twice_of kind.Fetch Four core.cp0 t core.pc || fetched_meets_two core.cp0 regs t (fetch_of core t lent))
