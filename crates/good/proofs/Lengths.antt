-- A step leaves RAM and paper as long as they were.
use Prim.Native.Nat.{ℕ, ◌<◌}
use mathlib.Core.Path.{◌≡◌, refl, ◌∙◌}
use lib.ListN.{length}
use Rattle.board.specs.declared.places.Sizes.{Sizes}
use Rattle.memory.proofs.Laws.{length_stored}
use Rattle.printer.proofs.Passed.{length_ticks}
use Rattle.decide.specs.Lent.{Whole, sizes_of}
use Rattle.decide.specs.Range.{Within}
use Rattle.decide.specs.declared.effect.Effect.{Effect}
use Rattle.decide.specs.declared.effect.Effect.TheVariants.{Nothing, Register, HiLo, Control, Entry, TlbRow, Ram, DeviceLoad, DeviceStore, Raise}
use Rattle.decide.proofs.Laws.{decide_within}
use Rattle.step.specs.World.{World, Roms, lent_in}
use Rattle.step.specs.Tick.{printing_of, tick_of}
use Rattle.step.specs.Apply.{effect_of}
use Rattle.step.specs.Step.{decision_in, step_of}

pub record SameLengths (before after : World) : Type 0 where
  pub ram : length after.ram ≡ length before.ram
  pub paper : length after.paper ≡ length before.paper

pub tick_lengths : (w : World) → SameLengths w (tick_of w)
unfolding tick_of
tick_lengths w = record { ram = refl; paper = length_ticks (printing_of w.board w.paper) 8 }

pub effect_lengths : (sizes : Sizes) (rows : ℕ) (e : Effect) (w : World) → Within (length w.ram) rows e → SameLengths w (effect_of sizes e w)
unfolding effect_of
effect_lengths sizes rows Nothing w i = record { ram = refl; paper = refl }
effect_lengths sizes rows (Register d word) w i = record { ram = refl; paper = refl }
effect_lengths sizes rows (HiLo hi lo) w i = record { ram = refl; paper = refl }
effect_lengths sizes rows (Control r word) w i = record { ram = refl; paper = refl }
effect_lengths sizes rows (Entry row) w i = record { ram = refl; paper = refl }
effect_lengths sizes rows (TlbRow k high low) w i = record { ram = refl; paper = refl }
effect_lengths sizes rows (Ram at word) w i = record { ram = length_stored 4 w.ram at i.1 word; paper = refl }
effect_lengths sizes rows (DeviceLoad d offset) w i = record { ram = refl; paper = refl }
effect_lengths sizes rows (DeviceStore offset word) w i = record { ram = refl; paper = refl }
effect_lengths sizes rows (Raise e) w i = record { ram = refl; paper = refl }

module _ (roms : Roms) (w : World) (whole : Whole (lent_in roms w)) where
  -- what is decided after the tick is in range: the tick leaves the table and RAM
  pub step_within : 0 < length w.cpu.tlb → Within (length w.ram) (length w.cpu.tlb) (decision_in roms (tick_of w)).effect
  unfolding tick_of
  step_within some = decide_within (lent_in roms w) whole w.cpu.tlb some (tick_of w).cpu.core w.cpu.regs

  pub step_lengths : 0 < length w.cpu.tlb → SameLengths w (step_of roms w)
  unfolding step_of tick_of
  step_lengths some =
      let t = tick_of w in
      let ticked = tick_lengths w in
      let rest = effect_lengths (sizes_of (lent_in roms t)) (length w.cpu.tlb) (decision_in roms t).effect t (step_within some) in
      record { ram = rest.ram ∙ ticked.ram; paper = rest.paper ∙ ticked.paper }

  -- so what is lent is in whole words after the step as before it
  pub step_whole : 0 < length w.cpu.tlb → Whole (lent_in roms (step_of roms w))
  step_whole some =
      let same = (step_lengths some).ram in
      record {
        execution = whole.execution;
        bootstrap = whole.bootstrap;
        ram = record { whole = rw same whole.ram.whole; few = rw same whole.ram.few };
      }
