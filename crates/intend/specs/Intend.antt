-- What each instruction asks for. The operands stand in the order of the assembler's line.
use Rattle.std.specs.Prelude.{ℕ, List}
use Rattle.alu.specs.Jumps.{link_of}
use Rattle.alu.specs.Logic.{lui_of}
use Rattle.isa.specs.declared.instr.Instr.{Instr}
use Rattle.isa.specs.declared.instr.Instr.TheVariants.{Reserved, Unusable, Syscall, Break, Shift, ShiftBy, Register, Product, MoveFrom, MoveTo, JumpRegister, JumpLinkRegister, Jump, Compare, Sign, Immediate, LoadUpper, Load, Store}
use Rattle.isa.specs.declared.instr.Instr.TheVariants as instr
use Rattle.board.specs.declared.places.Sizes.{Sizes}
use Rattle.tlb.specs.declared.Row.{Row}
use Rattle.state.specs.declared.machine.Core.{Core}
use Rattle.intend.specs.Codes.{code_sys, code_bp, code_ri, code_cpu}
use Rattle.intend.specs.Operand.{reg_of}
use Rattle.intend.specs.Operate.{shift_of, register_of, immediate_of, summed_of}
use Rattle.intend.specs.HiLo.{kept_of, product_of, half_of, with_half, hi_lo_of}
use Rattle.intend.specs.Branch.{jumps_of, compares_of, signs_of}
use Rattle.intend.specs.Control.{control_of}
use Rattle.intend.specs.Access.{load_of, store_of}
use Rattle.intend.specs.declared.intent.Intent.{Intent}
use Rattle.intend.specs.declared.intent.Intent.TheVariants.{Write, Branch, Trap}

-- t is the translation table
module _ (core : Core) (regs : List ℕ) (t : List Row) (sizes : Sizes) where
  abbrev reg : ℕ → ℕ
  reg i = reg_of regs i

  unfoldable pub intend_of : Instr → Intent
  intend_of Reserved = Trap code_ri 0
  intend_of (Unusable z) = Trap code_cpu z
  intend_of Syscall = Trap code_sys 0
  intend_of Break = Trap code_bp 0
  intend_of (Shift op rd rt by) = Write rd (shift_of op (reg rt) by)
  intend_of (ShiftBy op rd rt rs) = Write rd (shift_of op (reg rt) (reg rs))
  intend_of (Register op rd rs rt) = summed_of (register_of op (reg rs) (reg rt)) rd
  intend_of (Product op rs rt) = hi_lo_of (product_of op (reg rs) (reg rt) (kept_of core))
  intend_of (MoveFrom half rd) = Write rd (half_of half (kept_of core))
  intend_of (MoveTo half rs) = hi_lo_of (with_half half (reg rs) (kept_of core))
  intend_of (JumpRegister rs) = Branch 0 0 (reg rs)
  intend_of (JumpLinkRegister rd rs) = Branch rd (link_of core.pc) (reg rs)
  intend_of (Jump op target) = jumps_of op core target
  intend_of (Compare op rs rt offset) = compares_of op core (reg rs) (reg rt) offset
  intend_of (Sign op rs offset) = signs_of op core (reg rs) offset
  intend_of (Immediate op rt rs imm) = summed_of (immediate_of op (reg rs) imm) rt
  intend_of (LoadUpper rt imm) = Write rt (lui_of imm)
  intend_of (Load op rt base offset) = load_of op rt (reg base) offset core.cp0 t sizes
  intend_of (Store op rt base offset) = store_of op (reg rt) (reg base) offset core.cp0 t sizes
  intend_of (instr.Control control) = control_of core.cp0 regs t control
