-- After any step the flag is 1 exactly if the step executed a branch or jump, and the address is then its PC.
use Rattle.std.specs.Prelude.{Result, Ok, Err}
use Prim.Native.Nat.{ℕ}
use mathlib.Core.Path.{◌≡◌, refl, ap, ◌∙◌}
use mathlib.Core.Bool.{Bool, true, false, cond}
use mathlib.Core.List.{List}
use Rattle.std.proofs.Common.{Option, Some, None}
use Rattle.isa.specs.Opcode.{decode_of}
use Rattle.isa.specs.declared.instr.Control.{Control}
use Rattle.isa.specs.declared.instr.Control.TheVariants.{Undefined, Mfc0, Mtc0, Tlbr, Tlbwi, Tlbwr, Tlbp, Rfe}
use Rattle.isa.specs.declared.instr.Instr.{Instr}
use Rattle.isa.specs.declared.instr.Instr.TheVariants.{Reserved, Unusable, Syscall, Break, Shift, ShiftBy, Register, Product, MoveFrom, MoveTo, JumpRegister, JumpLinkRegister, Jump, Compare, Sign, Immediate, LoadUpper, Load, Store}
use Rattle.isa.specs.declared.instr.Instr.TheVariants as instr
use Rattle.isa.specs.declared.instr.JumpOp.{JumpOp}
use Rattle.isa.specs.declared.instr.JumpOp.TheVariants.{J, Jal}
use Rattle.board.specs.declared.places.Sizes.{Sizes}
use Rattle.cp0.specs.Interrupt.{interrupts_of}
use Rattle.cp0.specs.Privilege.{usable_of}
use Rattle.tlb.specs.declared.Row.{Row}
use Rattle.reach.specs.declared.Fault.{Fault}
use Rattle.board.specs.declared.places.Place.{Place}
use Rattle.reach.specs.declared.access.Kind.TheVariants.{Fetch}
use Rattle.reach.specs.declared.access.Width.TheVariants.{Four}
use Rattle.state.specs.declared.machine.Core.{Core}
use Rattle.intend.specs.Access.{reached_of}
use Rattle.intend.specs.Intend.{intend_of}
use Rattle.intend.specs.Operate.{register_of, immediate_of, summed_of}
use Rattle.intend.specs.Operand.{reg_of}
use Rattle.intend.specs.Branch.{jumps_of}
use Rattle.intend.specs.Control.{function_of, control_of}
use Rattle.intend.specs.Codes.{code_int, code_cpu}
use Rattle.intend.specs.declared.intent.Intent.{Intent}
use Rattle.intend.specs.declared.intent.Intent.TheVariants as intent
use Rattle.decide.specs.Lent.{Lent, sizes_of, word_in}
use Rattle.decide.specs.Fetch.{answered, fetch_of}
use Rattle.decide.specs.Settle.{trapped_of, settle_of}
use Rattle.decide.specs.Decide.{execute_of, fetched_of, decide_of}
use Rattle.decide.specs.declared.effect.Effect.{Effect}
use Rattle.decide.specs.declared.effect.Effect.TheVariants as effect
use Rattle.step.specs.World.{World, Roms, lent_in}
use Rattle.step.specs.Tick.{tick_of}
use Rattle.step.specs.Apply.{effect_of}
use Rattle.step.specs.Step.{decision_in, step_of}
use Rattle.delay.specs.Delay.{is_branch, fetched_branch, branches_of, SlotTold}

-- ---- an intent to branch is a branch's

abbrev is_to : Intent → Bool
is_to (intent.Write d v) = false
is_to (intent.Branch d v next) = true
is_to (intent.HiLo hi lo) = false
is_to (intent.Load op d va reached) = false
is_to (intent.Store op x va reached) = false
is_to (intent.SetControl r word) = false
is_to (intent.SetEntry row) = false
is_to (intent.SetRow i row) = false
is_to (intent.Trap code coprocessor) = false

module _ (core : Core) (regs : List ℕ) (t : List Row) (lent : Lent) where
  settled : (i : Intent) → (settle_of core regs lent i).branched ≡ is_to i
  unfolding settle_of
  settled (intent.Write d v) = refl
  settled (intent.Branch d v next) = refl
  settled (intent.HiLo hi lo) = refl
  settled (intent.Load op d va (Ok place)) = refl
  settled (intent.Load op d va (Err fault)) = refl
  settled (intent.Store op x va (Ok place)) = refl
  settled (intent.Store op x va (Err fault)) = refl
  settled (intent.SetControl r word) = refl
  settled (intent.SetEntry row) = refl
  settled (intent.SetRow i row) = refl
  settled (intent.Trap code coprocessor) = refl

  summed : (a : Option ℕ) (d : ℕ) → is_to (summed_of a d) ≡ false
  summed (Some v) d = refl
  summed None d = refl

  jumps : (op : JumpOp) (target : ℕ) → is_to (jumps_of op core target) ≡ true
  jumps J target = refl
  jumps Jal target = refl

  functions : (control : Control) → is_to (function_of core.cp0 regs t control) ≡ false
  unfolding function_of
  functions Undefined = refl
  functions (Mfc0 rt r) = refl
  functions (Mtc0 rt r) = refl
  functions Tlbr = refl
  functions Tlbwi = refl
  functions Tlbwr = refl
  functions Tlbp = refl
  functions Rfe = refl

  controls : (control : Control) → is_to (control_of core.cp0 regs t control) ≡ false
  unfolding control_of
  controls control = by (usable_of core.cp0.status)
    where
      by : (usable : Bool) → is_to (cond usable (function_of core.cp0 regs t control) (intent.Trap code_cpu 0)) ≡ false
      by true = functions control
      by false = refl

  intends : (i : Instr) → is_to (intend_of core regs t (sizes_of lent) i) ≡ is_branch i
  unfolding intend_of
  intends Reserved = refl
  intends (Unusable z) = refl
  intends Syscall = refl
  intends Break = refl
  intends (Shift op rd rt by) = refl
  intends (ShiftBy op rd rt rs) = refl
  intends (Register op rd rs rt) = summed (register_of op (reg_of regs rs) (reg_of regs rt)) rd
  intends (Product op rs rt) = refl
  intends (MoveFrom half rd) = refl
  intends (MoveTo half rs) = refl
  intends (JumpRegister rs) = refl
  intends (JumpLinkRegister rd rs) = refl
  intends (Jump op target) = jumps op target
  intends (Compare op rs rt offset) = refl
  intends (Sign op rs offset) = refl
  intends (Immediate op rt rs imm) = summed (immediate_of op (reg_of regs rs) imm) rt
  intends (LoadUpper rt imm) = refl
  intends (Load op rt base offset) = refl
  intends (Store op rt base offset) = refl
  intends (instr.Control control) = controls control

  fetched : (r : Result Place Fault) → (fetched_of core regs t lent r).branched ≡ fetched_branch (answered lent r)
  unfolding execute_of
  fetched (Ok place) =
      let word = word_in lent place in
      settled (intend_of core regs t (sizes_of lent) (decode_of word)) ∙ intends (decode_of word)
  fetched (Err fault) = refl

  decided : (decide_of core regs t lent).branched
      ≡ cond (interrupts_of core.cp0.status core.cp0.cause) false (fetched_branch (fetch_of core t lent))
  unfolding decide_of fetch_of
  decided = by (interrupts_of core.cp0.status core.cp0.cause) (reached_of Fetch Four core.cp0 t (sizes_of lent) core.pc)
    where
      by : (entry : Bool) (r : Result Place Fault) →
          (cond entry (trapped_of core code_int 0) (fetched_of core regs t lent r)).branched ≡ cond entry false (fetched_branch (answered lent r))
      by true r = refl
      by false r = fetched r

-- ---- neither the tick nor an effect moves PC

effect_pc : (sizes : Sizes) (e : Effect) (w : World) → (effect_of sizes e w).cpu.core.pc ≡ w.cpu.core.pc
unfolding effect_of
effect_pc sizes effect.Nothing w = refl
effect_pc sizes (effect.Register d word) w = refl
effect_pc sizes (effect.HiLo hi lo) w = refl
effect_pc sizes (effect.Control r word) w = refl
effect_pc sizes (effect.Entry row) w = refl
effect_pc sizes (effect.TlbRow i high low) w = refl
effect_pc sizes (effect.Ram at word) w = refl
effect_pc sizes (effect.DeviceLoad d offset) w = refl
effect_pc sizes (effect.DeviceStore offset word) w = refl
effect_pc sizes (effect.Raise e) w = refl

pub tick_pc : (w : World) → (tick_of w).cpu.core.pc ≡ w.cpu.core.pc
unfolding tick_of
tick_pc w = refl

pub slot_told : (roms : Roms) (w : World) → SlotTold roms w
unfolding step_of
slot_told roms w =
    let t = tick_of w in
    let d = decision_in roms t in
    let is : d.branched ≡ branches_of roms w = decided t.cpu.core t.cpu.regs t.cpu.tlb (lent_in roms t) in
    record {
      flag = ap (λ (b : Bool). cond b 1 0) is;
      address =
          ap (λ (b : Bool). cond b (effect_of (sizes_of (lent_in roms t)) d.effect t).cpu.core.pc 0) is
          ∙ ap (λ (pc : ℕ). cond (branches_of roms w) pc 0) (effect_pc (sizes_of (lent_in roms t)) d.effect t ∙ tick_pc w);
    }
