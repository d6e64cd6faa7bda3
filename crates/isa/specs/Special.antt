-- The words of opcode SPECIAL: the table of their function codes, and the operands of each format in the order of the assembler's line.
use Rattle.std.specs.Prelude.{ℕ, List, [], get_or}
use Rattle.isa.specs.Table.{row}
use Rattle.isa.specs.Fields.{rs, rt, rd, shamt, funct}
use Rattle.isa.specs.declared.instr.ShiftOp.{ShiftOp}
use Rattle.isa.specs.declared.instr.ShiftOp.TheVariants.{Sll, Srl, Sra}
use Rattle.isa.specs.declared.instr.RegisterOp.{RegisterOp}
use Rattle.isa.specs.declared.instr.RegisterOp.TheVariants.{Add, Addu, Sub, Subu, And, Or, Xor, Nor, Slt, Sltu}
use Rattle.isa.specs.declared.instr.ProductOp.{ProductOp}
use Rattle.isa.specs.declared.instr.ProductOp.TheVariants.{Mult, Multu, Div, Divu}
use Rattle.isa.specs.declared.instr.HiLo.{HiLo}
use Rattle.isa.specs.declared.instr.HiLo.TheVariants.{Hi, Lo}
use Rattle.isa.specs.declared.instr.Instr.{Instr}
use Rattle.isa.specs.declared.instr.Instr.TheVariants.{Reserved, Syscall, Break, Shift, ShiftBy, Register, Product, MoveFrom, MoveTo, JumpRegister, JumpLinkRegister}

pub data Function : Type 0 where
  none : Function
  JR : Function
  JALR : Function
  SYSCALL : Function
  BREAK : Function
  shift : ShiftOp → Function
  shift_by : ShiftOp → Function
  mf : HiLo → Function
  mt : HiLo → Function
  product : ProductOp → Function
  register : RegisterOp → Function

-- bits 5-0
abbrev pub functions : List Function
functions =
    row (shift Sll) none (shift Srl) (shift Sra) (shift_by Sll) none (shift_by Srl) (shift_by Sra)
    (row JR JALR none none SYSCALL BREAK none none
    (row (mf Hi) (mt Hi) (mf Lo) (mt Lo) none none none none
    (row (product Mult) (product Multu) (product Div) (product Divu) none none none none
    (row (register Add) (register Addu) (register Sub) (register Subu) (register And) (register Or) (register Xor) (register Nor)
    (row none none (register Slt) (register Sltu) none none none none
    (row none none none none none none none none
    (row none none none none none none none none [])))))))

abbrev pub formed : Function → ℕ → Instr
formed none w = Reserved
formed JR w = JumpRegister (rs w)
formed JALR w = JumpLinkRegister (rd w) (rs w)
formed SYSCALL w = Syscall
formed BREAK w = Break
formed (shift op) w = Shift op (rd w) (rt w) (shamt w)
formed (shift_by op) w = ShiftBy op (rd w) (rt w) (rs w)
formed (mf half) w = MoveFrom half (rd w)
formed (mt half) w = MoveTo half (rs w)
formed (product op) w = Product op (rs w) (rt w)
formed (register op) w = Register op (rd w) (rs w) (rt w)

abbrev pub special_of : ℕ → Instr
special_of w = formed (get_or functions (funct w) none) w
