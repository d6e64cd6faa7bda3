-- The effect, the PC pair and the slot by parts: what the functions of apply.rt leave is the decision applied.
use Rattle.std.specs.Prelude.{◌≡◌, ℕ, List, []}
use mathlib.Core.Path.{refl, ap}
use Rattle.board.specs.declared.places.Sizes.{Sizes}
use Rattle.tlb.specs.declared.Row.{Row}
use Rattle.state.specs.Slot.{slot_after}
use Rattle.state.specs.declared.machine.Core.{Core}
use Rattle.state.specs.declared.machine.Board.{Board}
use Rattle.decide.specs.declared.effect.Decision.{Decision}
use Rattle.decide.specs.declared.effect.Effect.{Effect}
use Rattle.decide.specs.declared.effect.Effect.TheVariants.{Nothing, Register, HiLo, Control, Entry, TlbRow, Ram, DeviceLoad, DeviceStore, Raise}
use Rattle.step.specs.World.{World, world_of}
use Rattle.step.specs.Apply.{bus_of, with_pc, paired, effect_of, applied_of}
use Rattle.step.specs.Parts.{regs_after, ram_after, core_after, rows_after, board_after}
use Rattle.step.proofs.Effects.{by_parts}

module _ (sizes : Sizes) (d : Decision) (core : Core) (board : Board) (regs : List ℕ) (t : List Row) (ram paper : List ℕ) where
  abbrev from : World
  from = world_of core board regs t ram paper

  pub apply_is : {regs' ram' : List ℕ} {next : Board} {moved last : Core} →
      (regs' ≡ regs_after (bus_of sizes board) board.line.printers d.effect regs) × (ram' ≡ ram_after d.effect ram) →
      next ≡ board_after d.effect board →
      moved ≡ core_after next.line.pending d.effect core →
      last ≡ with_pc d.pc d.next_pc (slot_after d.branched moved) →
      world_of last next regs' (rows_after d.effect t) ram' paper ≡ applied_of sizes d from
  apply_is written boarded cored paced =
      rw (paced, cored, boarded, written.0, written.1) (ap (paired d) (back (by_parts sizes d.effect from)))
    where
      back : {x y : World} → x ≡ y → y ≡ x
      back e = cc

-- the table and paper have no part in what the core, the board, the registers and RAM become
parts_by : (sizes : Sizes) (e : Effect) (core : Core) (board : Board) (regs : List ℕ) (t : List Row) (ram paper : List ℕ) →
    effect_of sizes e (world_of core board regs t ram paper)
    ≡ (let w : World = effect_of sizes e (world_of core board regs [] ram []) in
    world_of w.cpu.core w.board w.cpu.regs (rows_after e t) w.ram paper)
unfolding effect_of
parts_by sizes Nothing core board regs t ram paper = refl
parts_by sizes (Register n word) core board regs t ram paper = refl
parts_by sizes (HiLo hi lo) core board regs t ram paper = refl
parts_by sizes (Control r word) core board regs t ram paper = refl
parts_by sizes (Entry row) core board regs t ram paper = refl
parts_by sizes (TlbRow i high low) core board regs t ram paper = refl
parts_by sizes (Ram at word) core board regs t ram paper = refl
parts_by sizes (DeviceLoad n offset) core board regs t ram paper = refl
parts_by sizes (DeviceStore offset word) core board regs t ram paper = refl
parts_by sizes (Raise e) core board regs t ram paper = refl

pub apply_parts : (sizes : Sizes) (d : Decision) (core : Core) (board : Board) (regs : List ℕ) (t : List Row) (ram paper : List ℕ) →
    applied_of sizes d (world_of core board regs t ram paper)
    ≡ (let w : World = applied_of sizes d (world_of core board regs [] ram []) in
    world_of w.cpu.core w.board w.cpu.regs (rows_after d.effect t) w.ram paper)
apply_parts sizes d core board regs t ram paper = ap (paired d) (parts_by sizes d.effect core board regs t ram paper)
