-- What is computed from registers and immediates, and written to a register.
use Rattle.std.specs.Prelude.{ℕ, Option, Some, None}
use Rattle.alu.specs.Sum.{add_of, sub_of, addu_of, subu_of, slt_of, sltu_of, addi_of, addiu_of, slti_of, sltiu_of}
use Rattle.alu.specs.Logic.{and_of, or_of, xor_of, nor_of, andi_of, ori_of, xori_of}
use Rattle.alu.specs.Shift.{sll_of, srl_of, sra_of}
use Rattle.isa.specs.declared.instr.ShiftOp.{ShiftOp}
use Rattle.isa.specs.declared.instr.ShiftOp.TheVariants.{Sll, Srl, Sra}
use Rattle.isa.specs.declared.instr.RegisterOp.{RegisterOp}
use Rattle.isa.specs.declared.instr.RegisterOp.TheVariants.{Add, Addu, Sub, Subu, And, Or, Xor, Nor, Slt, Sltu}
use Rattle.isa.specs.declared.instr.ImmediateOp.{ImmediateOp}
use Rattle.isa.specs.declared.instr.ImmediateOp.TheVariants.{Addi, Addiu, Slti, Sltiu, Andi, Ori, Xori}
use Rattle.intend.specs.Codes.{code_ov}
use Rattle.intend.specs.declared.intent.Intent.{Intent}
use Rattle.intend.specs.declared.intent.Intent.TheVariants.{Write, Trap}

abbrev pub shift_of : ShiftOp → ℕ → ℕ → ℕ
shift_of Sll x by = sll_of x by
shift_of Srl x by = srl_of x by
shift_of Sra x by = sra_of x by

-- ADD and SUB alone can overflow
abbrev pub register_of : RegisterOp → ℕ → ℕ → Option ℕ
register_of Add x y = add_of x y
register_of Addu x y = Some (addu_of x y)
register_of Sub x y = sub_of x y
register_of Subu x y = Some (subu_of x y)
register_of And x y = Some (and_of x y)
register_of Or x y = Some (or_of x y)
register_of Xor x y = Some (xor_of x y)
register_of Nor x y = Some (nor_of x y)
register_of Slt x y = Some (slt_of x y)
register_of Sltu x y = Some (sltu_of x y)

abbrev pub immediate_of : ImmediateOp → ℕ → ℕ → Option ℕ
immediate_of Addi x imm = addi_of x imm
immediate_of Addiu x imm = Some (addiu_of x imm)
immediate_of Slti x imm = Some (slti_of x imm)
immediate_of Sltiu x imm = Some (sltiu_of x imm)
immediate_of Andi x imm = Some (andi_of x imm)
immediate_of Ori x imm = Some (ori_of x imm)
immediate_of Xori x imm = Some (xori_of x imm)

-- the target is kept where the sum overflows
abbrev pub summed_of : Option ℕ → ℕ → Intent
summed_of (Some v) d = Write d v
summed_of None d = Trap code_ov 0
