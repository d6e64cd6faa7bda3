-- Branches and jumps. Document 01, "One step": targets and links count from the instruction's own PC, "also for a branch in a slot (house)";
-- a branch that is not taken leaves next PC to become itself + 4. Links are written taken or not.
use Rattle.std.specs.Prelude.{ℕ, Bool, cond}
use Rattle.alu.specs.Condition.{eq_of, ne_of, lez_of, gtz_of, ltz_of, gez_of}
use Rattle.alu.specs.Jumps.{branch_of, jump_of, link_of}
use Rattle.isa.specs.declared.instr.JumpOp.{JumpOp}
use Rattle.isa.specs.declared.instr.JumpOp.TheVariants.{J, Jal}
use Rattle.isa.specs.declared.instr.CompareOp.{CompareOp}
use Rattle.isa.specs.declared.instr.CompareOp.TheVariants.{Beq, Bne}
use Rattle.isa.specs.declared.instr.SignOp.{SignOp}
use Rattle.isa.specs.declared.instr.SignOp.TheVariants.{Bltz, Bgez, Bltzal, Bgezal, Blez, Bgtz}
use Rattle.state.specs.declared.machine.Core.{Core}
use Rattle.intend.specs.Operand.{after_of}
use Rattle.intend.specs.declared.intent.Intent.{Intent}
use Rattle.intend.specs.declared.intent.Intent.TheVariants.{Branch}

abbrev pub compare_of : CompareOp → ℕ → ℕ → Bool
compare_of Beq x y = eq_of x y
compare_of Bne x y = ne_of x y

abbrev pub sign_of : SignOp → ℕ → Bool
sign_of Bltz x = ltz_of x
sign_of Bgez x = gez_of x
sign_of Bltzal x = ltz_of x
sign_of Bgezal x = gez_of x
sign_of Blez x = lez_of x
sign_of Bgtz x = gtz_of x

-- the register that takes the link: 0, and so none, where there is no link
abbrev pub link_register : SignOp → ℕ
link_register Bltz = 0
link_register Bgez = 0
link_register Bltzal = 31
link_register Bgezal = 31
link_register Blez = 0
link_register Bgtz = 0

-- the next PC after a branch
abbrev pub taken_of : Core → Bool → ℕ → ℕ
taken_of core test offset = cond test (branch_of core.pc offset) (after_of core.next_pc)

abbrev pub jumps_of : JumpOp → Core → ℕ → Intent
jumps_of J core target = Branch 0 0 (jump_of core.pc target)
jumps_of Jal core target = Branch 31 (link_of core.pc) (jump_of core.pc target)

abbrev pub compares_of : CompareOp → Core → ℕ → ℕ → ℕ → Intent
compares_of op core x y offset = Branch 0 0 (taken_of core (compare_of op x y) offset)

abbrev pub signs_of : SignOp → Core → ℕ → ℕ → Intent
signs_of op core x offset = Branch (link_register op) (link_of core.pc) (taken_of core (sign_of op x) offset)
