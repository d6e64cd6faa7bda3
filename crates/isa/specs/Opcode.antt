-- The table of opcodes, and what a whole word says.
use Rattle.std.specs.Prelude.{ℕ, List, [], get_or}
use Rattle.isa.specs.Table.{row}
use Rattle.isa.specs.Fields.{opcode, rs, rt, immediate, target}
use Rattle.isa.specs.Special.{special_of}
use Rattle.isa.specs.Regimm.{regimm_of}
use Rattle.isa.specs.Cop0.{control_of}
use Rattle.isa.specs.declared.instr.JumpOp.{JumpOp}
use Rattle.isa.specs.declared.instr.JumpOp.TheVariants.{J, Jal}
use Rattle.isa.specs.declared.instr.CompareOp.{CompareOp}
use Rattle.isa.specs.declared.instr.CompareOp.TheVariants.{Beq, Bne}
use Rattle.isa.specs.declared.instr.SignOp.{SignOp}
use Rattle.isa.specs.declared.instr.SignOp.TheVariants.{Blez, Bgtz}
use Rattle.isa.specs.declared.instr.ImmediateOp.{ImmediateOp}
use Rattle.isa.specs.declared.instr.ImmediateOp.TheVariants.{Addi, Addiu, Slti, Sltiu, Andi, Ori, Xori}
use Rattle.isa.specs.declared.instr.LoadOp.{LoadOp}
use Rattle.isa.specs.declared.instr.LoadOp.TheVariants.{Lb, Lh, Lwl, Lw, Lbu, Lhu, Lwr}
use Rattle.isa.specs.declared.instr.StoreOp.{StoreOp}
use Rattle.isa.specs.declared.instr.StoreOp.TheVariants.{Sb, Sh, Swl, Sw, Swr}
use Rattle.isa.specs.declared.instr.Instr.{Instr}
use Rattle.isa.specs.declared.instr.Instr.TheVariants.{Reserved, Unusable, Jump, Compare, Sign, Immediate, LoadUpper, Load, Store}
use Rattle.isa.specs.declared.instr.Instr.TheVariants as instr

pub data Opcode : Type 0 where
  none : Opcode
  SPECIAL : Opcode
  REGIMM : Opcode
  COP0 : Opcode
  LUI : Opcode
  cop : ℕ → Opcode
  jump : JumpOp → Opcode
  compare : CompareOp → Opcode
  sign : SignOp → Opcode
  arith : ImmediateOp → Opcode
  load : LoadOp → Opcode
  store : StoreOp → Opcode

-- bits 31-26. Coprocessors 1 to 3, with their loads and stores, are there to be unusable; LWC0 and SWC0 are reserved (document 01)
abbrev pub opcodes : List Opcode
opcodes =
    row SPECIAL REGIMM (jump J) (jump Jal) (compare Beq) (compare Bne) (sign Blez) (sign Bgtz)
    (row (arith Addi) (arith Addiu) (arith Slti) (arith Sltiu) (arith Andi) (arith Ori) (arith Xori) LUI
    (row COP0 (cop 1) (cop 2) (cop 3) none none none none
    (row none none none none none none none none
    (row (load Lb) (load Lh) (load Lwl) (load Lw) (load Lbu) (load Lhu) (load Lwr) none
    (row (store Sb) (store Sh) (store Swl) (store Sw) none none (store Swr) none
    (row none (cop 1) (cop 2) (cop 3) none none none none
    (row none (cop 1) (cop 2) (cop 3) none none none none [])))))))

abbrev pub formed : Opcode → ℕ → Instr
formed none w = Reserved
formed SPECIAL w = special_of w
formed REGIMM w = regimm_of w
formed COP0 w = instr.Control (control_of w)
formed LUI w = LoadUpper (rt w) (immediate w)
formed (cop z) w = Unusable z
formed (jump op) w = Jump op (target w)
formed (compare op) w = Compare op (rs w) (rt w) (immediate w)
formed (sign op) w = Sign op (rs w) (immediate w)
formed (arith op) w = Immediate op (rt w) (rs w) (immediate w)
formed (load op) w = Load op (rt w) (rs w) (immediate w)
formed (store op) w = Store op (rt w) (rs w) (immediate w)

abbrev pub decode_of : ℕ → Instr
decode_of w = formed (get_or opcodes (opcode w) none) w
