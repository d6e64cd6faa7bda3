-- An exception in a slot keeps the branch's address and every register; and a branch that is executed again, from its own PC and with the registers that it read, does what it
-- did. So RFE and a jump to EPC go on as if there had been no exception, which is what BD is for.
use Prim.Native.Nat.{ℕ}
use mathlib.Core.Path.{◌≡◌, refl, ◌∙◌}
use mathlib.Core.Bool.{true, false≢true}
use mathlib.Core.List.{List}
use Rattle.word.specs.Map.{bit}
use Rattle.isa.specs.declared.instr.Instr.{Instr}
use Rattle.isa.specs.declared.instr.Instr.TheVariants.{Reserved, Unusable, Syscall, Break, Shift, ShiftBy, Register, Product, MoveFrom, MoveTo, JumpRegister, JumpLinkRegister, Jump, Compare, Sign, Immediate, LoadUpper, Load, Store}
use Rattle.isa.specs.declared.instr.Instr.TheVariants as instr
use Rattle.isa.specs.declared.instr.JumpOp.{JumpOp}
use Rattle.isa.specs.declared.instr.JumpOp.TheVariants.{J, Jal}
use Rattle.board.specs.declared.places.Sizes.{Sizes}
use Rattle.cp0.specs.Entry.{entered_of}
use Rattle.cp0.proofs.Entries.{bd_told}
use Rattle.tlb.specs.declared.Row.{Row}
use Rattle.state.specs.Slot.{in_slot, return_of}
use Rattle.state.specs.declared.machine.Core.{Core}
use Rattle.intend.specs.Intend.{intend_of}
use Rattle.intend.specs.Branch.{jumps_of}
use Rattle.decide.specs.Lent.{sizes_of}
use Rattle.decide.specs.declared.effect.Effect.{Effect}
use Rattle.decide.specs.declared.effect.Effect.TheVariants as effect
use Rattle.step.specs.World.{World, Roms, lent_in}
use Rattle.step.specs.Tick.{tick_of}
use Rattle.step.specs.Apply.{effect_of}
use Rattle.step.specs.Step.{enters, effect_in, raises_of, step_of}
use Rattle.delay.specs.Delay.{is_branch, reads_of, Agree, KeepsBranch}

-- ---- the exception

tick_core : (w : World) → ((tick_of w).cpu.core.slot ≡ w.cpu.core.slot) × ((tick_of w).cpu.core.branch ≡ w.cpu.core.branch)
unfolding tick_of
tick_core w = (refl, refl)

tick_regs : (w : World) → (tick_of w).cpu.regs ≡ w.cpu.regs
unfolding tick_of
tick_regs w = refl

-- of an effect that enters an exception, in a world whose next step is a slot
pub record Entered (t after : World) : Type 0 where
  pub epc : after.cpu.core.cp0.epc ≡ t.cpu.core.branch
  pub bd : bit 31 after.cpu.core.cp0.cause ≡ true
  pub registers : after.cpu.regs ≡ t.cpu.regs

entered : (sizes : Sizes) (e : Effect) (t : World) → in_slot t.cpu.core ≡ true → enters e ≡ true → Entered t (effect_of sizes e t)
unfolding effect_of entered_of
entered sizes effect.Nothing t s h = absurd (false≢true h)
entered sizes (effect.Register d word) t s h = absurd (false≢true h)
entered sizes (effect.HiLo hi lo) t s h = absurd (false≢true h)
entered sizes (effect.Control r word) t s h = absurd (false≢true h)
entered sizes (effect.Entry row) t s h = absurd (false≢true h)
entered sizes (effect.TlbRow i high low) t s h = absurd (false≢true h)
entered sizes (effect.Ram at word) t s h = absurd (false≢true h)
entered sizes (effect.DeviceLoad d offset) t s h = absurd (false≢true h)
entered sizes (effect.DeviceStore offset word) t s h = absurd (false≢true h)
entered sizes (effect.Raise e) t s h =
    let core = t.cpu.core in
    record {
      epc = rw s;
      bd = bd_told e (in_slot core) (return_of core) core.cp0 ∙ s;
      registers = refl;
    }

pub keeps_branch : (roms : Roms) (w : World) → in_slot w.cpu.core ≡ true → raises_of roms w ≡ true → KeepsBranch roms w
unfolding step_of
keeps_branch roms w s raises =
    let t = tick_of w in
    let slot : in_slot t.cpu.core ≡ true = rw (tick_core w).0 s in
    let left = entered (sizes_of (lent_in roms t)) (effect_in roms w) t slot raises in
    record { epc = left.epc ∙ (tick_core w).1; bd = left.bd; registers = left.registers ∙ tick_regs w }

-- ---- the branch again

module _ (core core' : Core) (regs regs' : List ℕ) (t t' : List Row) (sizes sizes' : Sizes)
    (pc : core'.pc ≡ core.pc) (next : core'.next_pc ≡ core.next_pc) where
  jumps_again : (op : JumpOp) (target : ℕ) → jumps_of op core' target ≡ jumps_of op core target
  jumps_again J target = rw pc
  jumps_again Jal target = rw pc

  pub again : (i : Instr) → is_branch i ≡ true → Agree regs regs' (reads_of i) → intend_of core' regs' t' sizes' i ≡ intend_of core regs t sizes i
  unfolding intend_of
  again (JumpRegister rs) h a = rw a.0
  again (JumpLinkRegister rd rs) h a = rw (pc, a.0)
  again (Jump op target) h a = jumps_again op target
  again (Compare op rs rt offset) h a = rw (pc, next, a.0, a.1.0)
  again (Sign op rs offset) h a = rw (pc, next, a.0)
  again Reserved h a = absurd (false≢true h)
  again (Unusable z) h a = absurd (false≢true h)
  again Syscall h a = absurd (false≢true h)
  again Break h a = absurd (false≢true h)
  again (Shift op rd rt by) h a = absurd (false≢true h)
  again (ShiftBy op rd rt rs) h a = absurd (false≢true h)
  again (Register op rd rs rt) h a = absurd (false≢true h)
  again (Product op rs rt) h a = absurd (false≢true h)
  again (MoveFrom half rd) h a = absurd (false≢true h)
  again (MoveTo half rs) h a = absurd (false≢true h)
  again (Immediate op rt rs imm) h a = absurd (false≢true h)
  again (LoadUpper rt imm) h a = absurd (false≢true h)
  again (Load op rt base offset) h a = absurd (false≢true h)
  again (Store op rt base offset) h a = absurd (false≢true h)
  again (instr.Control control) h a = absurd (false≢true h)
