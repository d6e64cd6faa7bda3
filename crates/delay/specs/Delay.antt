-- Document 02, L2: "A slot is the step after any executed branch or jump, taken or not." Said of the instruction, and not of what deciding it hands on; and what an
-- exception in a slot keeps, so that the kernel can go back to the branch.
use Rattle.std.specs.Prelude.{ℕ, Bool, true, false, cond, List, [], ◌∷◌, ◌≡◌, Result, Ok, Err}
use Rattle.word.specs.Map.{bit}
use Rattle.isa.specs.Opcode.{decode_of}
use Rattle.isa.specs.declared.instr.Instr.{Instr}
use Rattle.isa.specs.declared.instr.Instr.TheVariants.{Reserved, Unusable, Syscall, Break, Shift, ShiftBy, Register, Product, MoveFrom, MoveTo, JumpRegister, JumpLinkRegister, Jump, Compare, Sign, Immediate, LoadUpper, Load, Store}
use Rattle.isa.specs.declared.instr.Instr.TheVariants as instr
use Rattle.cp0.specs.Interrupt.{interrupts_of}
use Rattle.intend.specs.Operand.{reg_of}
use Rattle.decide.specs.Fetch.{fetch_of}
use Rattle.reach.specs.declared.Fault.{Fault}
use Rattle.step.specs.World.{World, Roms, lent_in}
use Rattle.step.specs.Tick.{tick_of}
use Rattle.step.specs.Step.{step_of}

-- J and JAL; JR; JALR; BEQ and BNE; BLEZ, BGTZ, BLTZ, BGEZ, BLTZAL, BGEZAL
abbrev pub is_branch : Instr → Bool
is_branch (Jump op target) = true
is_branch (JumpRegister rs) = true
is_branch (JumpLinkRegister rd rs) = true
is_branch (Compare op rs rt offset) = true
is_branch (Sign op rs offset) = true
is_branch Reserved = false
is_branch (Unusable z) = false
is_branch Syscall = false
is_branch Break = false
is_branch (Shift op rd rt by) = false
is_branch (ShiftBy op rd rt rs) = false
is_branch (Register op rd rs rt) = false
is_branch (Product op rs rt) = false
is_branch (MoveFrom half rd) = false
is_branch (MoveTo half rs) = false
is_branch (Immediate op rt rs imm) = false
is_branch (LoadUpper rt imm) = false
is_branch (Load op rt base offset) = false
is_branch (Store op rt base offset) = false
is_branch (instr.Control control) = false

abbrev pub fetched_branch : Result ℕ Fault → Bool
fetched_branch (Ok word) = is_branch (decode_of word)
fetched_branch (Err fault) = false

-- the step from here executes a branch or jump: it is no interrupt entry, and its fetch gives the word of one
abbrev pub branches_of : Roms → World → Bool
branches_of roms w =
    let t = tick_of w in
    cond (interrupts_of t.cpu.core.cp0.status t.cpu.core.cp0.cause) false
    (fetched_branch (fetch_of t.cpu.core t.cpu.tlb (lent_in roms t)))

-- "The image gains a flag and the branch's address (0 if the flag is 0)": what both are after a step
pub record SlotTold (roms : Roms) (w : World) : Type 0 where
  pub flag : (step_of roms w).cpu.core.slot ≡ cond (branches_of roms w) 1 0
  pub address : (step_of roms w).cpu.core.branch ≡ cond (branches_of roms w) w.cpu.core.pc 0

-- what a step from a slot leaves where it enters an exception: "EPC takes the address of the branch and BD is 1", and no register is written
pub record KeepsBranch (roms : Roms) (w : World) : Type 0 where
  pub epc : (step_of roms w).cpu.core.cp0.epc ≡ w.cpu.core.branch
  pub bd : bit 31 (step_of roms w).cpu.core.cp0.cause ≡ true
  pub registers : (step_of roms w).cpu.regs ≡ w.cpu.regs

-- the registers that a branch or jump reads
abbrev pub reads_of : Instr → List ℕ
reads_of (JumpRegister rs) = rs ∷ []
reads_of (JumpLinkRegister rd rs) = rs ∷ []
reads_of (Compare op rs rt offset) = rs ∷ rt ∷ []
reads_of (Sign op rs offset) = rs ∷ []
reads_of (Jump op target) = []
reads_of Reserved = []
reads_of (Unusable z) = []
reads_of Syscall = []
reads_of Break = []
reads_of (Shift op rd rt by) = []
reads_of (ShiftBy op rd rt rs) = []
reads_of (Register op rd rs rt) = []
reads_of (Product op rs rt) = []
reads_of (MoveFrom half rd) = []
reads_of (MoveTo half rs) = []
reads_of (Immediate op rt rs imm) = []
reads_of (LoadUpper rt imm) = []
reads_of (Load op rt base offset) = []
reads_of (Store op rt base offset) = []
reads_of (instr.Control control) = []

-- each of these registers reads the same in both
abbrev pub Agree : List ℕ → List ℕ → List ℕ → Type 0
Agree regs regs' [] = Unit {0}
Agree regs regs' (r ∷ rest) = (reg_of regs' r ≡ reg_of regs r) × Agree regs regs' rest
