-- UNDOING THE RECORD OF A STEP AFTER THAT STEP GIVES THE STATE BEFORE IT.
use Prim.Native.Nat.{ℕ}
use mathlib.Core.Path.{◌≡◌, ap, ◌∙◌}
use native.Mathlib.Omega.{arith}
use lib.ListN.{length}
use Rattle.board.specs.declared.places.Sizes.{Sizes}
use Rattle.printer.specs.Saved.{saved_paper_of, restored_paper}
use Rattle.printer.specs.Tick as printer
use Rattle.printer.proofs.Undo.{undo_tick}
use Rattle.decide.specs.Lent.{Whole, sizes_of}
use Rattle.decide.specs.Range.{Within}
use Rattle.step.specs.World.{World, Roms, lent_in}
use Rattle.step.specs.Tick.{printing_of, tick_of}
use Rattle.step.specs.Apply.{bus_of, paired}
use Rattle.step.specs.Step.{decision_in, effect_in, step_of}
use Rattle.step.specs.Note.{note_of}
use Rattle.step.proofs.Effects.{together, by_parts}
use Rattle.good.specs.Good.{Good}
use Rattle.good.proofs.Lengths.{step_within}
use Rattle.good.proofs.Sound.{good_sound}
use Rattle.undo.specs.Undo.{undo_of}
use Rattle.restored.proofs.Times.{clock_back_lem}
use Rattle.restored.proofs.Parts.{regs_back_lem, rows_back_lem, ram_back_lem, clock_of, settings_of}

paper_back : (w : World) →
    restored_paper (saved_paper_of w.board.line.printers w.paper) w.board.line.printers (printer.ticked_of (printing_of w.board w.paper)).paper ≡ w.paper
paper_back w = ap (λ (s : printer.Printing). s.paper) (undo_tick (printing_of w.board w.paper))

-- what the effect does is in range
pub within : (roms : Roms) (w : World) → Good w → Whole (lent_in roms w) → Within (length w.ram) (length w.cpu.tlb) (effect_in roms w)
within roms w good whole = step_within roms w whole (omega (arith, good.typed.sized.tlb))

-- whatever distance the record keeps
module _ (distance : ℕ) (roms : Roms) (w : World) (good : Good w) (whole : Whole (lent_in roms w)) where
  abbrev ticked : World
  ticked = tick_of w

  abbrev sizes : Sizes
  sizes = sizes_of (lent_in roms ticked)

  parts_back : undo_of (note_of distance roms w) (paired (decision_in roms ticked) (together sizes (effect_in roms w) ticked)) ≡ w
  unfolding undo_of note_of tick_of
  parts_back =
      let e = effect_in roms w in
      let b = ticked.board in
      let clock = clock_of w.board.clock.timer e b ∙ clock_back_lem w.board.clock (good_sound w good).board.clock in
      λ i.
      record {
        cpu =
            record {
              regs = regs_back_lem distance w.cpu.regs w.cpu.tlb w.ram (bus_of sizes b) b.line.printers e i;
              core = w.cpu.core;
              tlb = rows_back_lem distance w.cpu.regs w.cpu.tlb w.ram e i;
            };
        board = record { clock = clock i; settings = settings_of e b i; line = w.board.line };
        ram = ram_back_lem distance w.cpu.regs w.cpu.tlb w.ram (length w.cpu.tlb) e (within roms w good whole) good.ram i;
        paper = paper_back w i;
      }

  pub undo_step : undo_of (note_of distance roms w) (step_of roms w) ≡ w
  unfolding step_of
  undo_step =
      ap (λ (x : World). undo_of (note_of distance roms w) (paired (decision_in roms ticked) x)) (by_parts sizes (effect_in roms w) ticked) ∙ parts_back
