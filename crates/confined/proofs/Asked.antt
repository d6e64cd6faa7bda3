-- What an instruction of a user step asks for: where CP0 is not usable nothing of CP0 and no row, and a store only where it is a store.
use Rattle.std.specs.Prelude.{Result}
use Prim.{tt}
use Prim.Native.Nat.{ℕ}
use mathlib.Core.Path.{◌≡◌, refl}
use mathlib.Core.Bool.{false}
use mathlib.Core.List.{List}
use Rattle.alu.specs.Sum.{addiu_of}
use Rattle.std.proofs.Common.{Option, Some, None}
use Rattle.isa.specs.declared.instr.Control.{Control}
use Rattle.isa.specs.declared.instr.Instr.{Instr}
use Rattle.isa.specs.declared.instr.Instr.TheVariants.{Reserved, Unusable, Syscall, Break, Shift, ShiftBy, Register, Product, MoveFrom, MoveTo, JumpRegister, JumpLinkRegister, Jump, Compare, Sign, Immediate, LoadUpper, Load, Store}
use Rattle.isa.specs.declared.instr.Instr.TheVariants as instr
use Rattle.isa.specs.declared.instr.JumpOp.{JumpOp}
use Rattle.isa.specs.declared.instr.JumpOp.TheVariants.{J, Jal}
use Rattle.isa.specs.declared.instr.StoreOp.{StoreOp}
use Rattle.board.specs.declared.places.Sizes.{Sizes}
use Rattle.cp0.specs.Privilege.{usable_of}
use Rattle.tlb.specs.declared.Row.{Row}
use Rattle.reach.specs.declared.Fault.{Fault}
use Rattle.board.specs.declared.places.Place.{Place}
use Rattle.reach.specs.declared.access.Kind.TheVariants as kind
use Rattle.state.specs.declared.machine.Core.{Core}
use Rattle.intend.specs.Access.{reached_of, store_width}
use Rattle.intend.specs.Branch.{jumps_of}
use Rattle.intend.specs.Control.{control_of}
use Rattle.intend.specs.Intend.{intend_of}
use Rattle.intend.specs.Operand.{reg_of}
use Rattle.intend.specs.Operate.{register_of, immediate_of, summed_of}
use Rattle.intend.specs.declared.intent.Intent.{Intent}
use Rattle.intend.specs.declared.intent.Intent.TheVariants as intent

module _ (core : Core) (regs : List ℕ) (t : List Row) (sizes : Sizes) where
  -- the instruction is a store, and its answer is this one
  pub record IsStore (i : Instr) (op : StoreOp) (x va : ℕ) (answer : Result Place Fault) : Type 0 where
    pub rt : ℕ
    pub base : ℕ
    pub offset : ℕ
    pub is : i ≡ Store op rt base offset
    pub address : va ≡ addiu_of (reg_of regs base) offset
    pub answered : answer ≡ reached_of kind.Store (store_width op) core.cp0 t sizes va

  abbrev pub Asked : Instr → Intent → Type 0
  Asked i (intent.Write d v) = Unit {0}
  Asked i (intent.Branch d v next) = Unit {0}
  Asked i (intent.HiLo hi lo) = Unit {0}
  Asked i (intent.Load op d va answer) = Unit {0}
  Asked i (intent.Store op x va answer) = IsStore i op x va answer
  Asked i (intent.SetControl r word) = ⊥
  Asked i (intent.SetEntry row) = ⊥
  Asked i (intent.SetRow k row) = ⊥
  Asked i (intent.Trap code coprocessor) = Unit {0}

  summed_asked : (i : Instr) (sum : Option ℕ) (d : ℕ) → Asked i (summed_of sum d)
  summed_asked i (Some v) d = tt
  summed_asked i None d = tt

  jumps_asked : (i : Instr) (op : JumpOp) (target : ℕ) → Asked i (jumps_of op core target)
  jumps_asked i J target = tt
  jumps_asked i Jal target = tt

  module _ (unusable : usable_of core.cp0.status ≡ false) where
    control_asked : (i : Instr) (c : Control) → Asked i (control_of core.cp0 regs t c)
    unfolding control_of
    control_asked i c = rw unusable tt

    pub intend_asked : (i : Instr) → Asked i (intend_of core regs t sizes i)
    unfolding intend_of
    intend_asked Reserved = tt
    intend_asked (Unusable z) = tt
    intend_asked Syscall = tt
    intend_asked Break = tt
    intend_asked (Shift op rd rt by) = tt
    intend_asked (ShiftBy op rd rt rs) = tt
    intend_asked (Register op rd rs rt) = summed_asked _ (register_of op (reg_of regs rs) (reg_of regs rt)) rd
    intend_asked (Product op rs rt) = tt
    intend_asked (MoveFrom half rd) = tt
    intend_asked (MoveTo half rs) = tt
    intend_asked (JumpRegister rs) = tt
    intend_asked (JumpLinkRegister rd rs) = tt
    intend_asked (Jump op target) = jumps_asked _ op target
    intend_asked (Compare op rs rt offset) = tt
    intend_asked (Sign op rs offset) = tt
    intend_asked (Immediate op rt rs imm) = summed_asked _ (immediate_of op (reg_of regs rs) imm) rt
    intend_asked (LoadUpper rt imm) = tt
    intend_asked (Load op rt base offset) = tt
    intend_asked (Store op rt base offset) = record { rt = rt; base = base; offset = offset; is = refl; address = refl; answered = refl }
    intend_asked (instr.Control c) = control_asked _ c
