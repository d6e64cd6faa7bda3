-- THE MACHINE OF DOCUMENT 01 KEEPS RING'S LAWS, so that all that ring proves of running back holds of it.
use native.Mathlib.Omega.{arith}
use lib.ListN.{length}
use Prim.Native.Nat.{◌<◌}
use Rattle.word.specs.Lists.{Below}
use Rattle.ring.specs.Machine.{Laws}
use Rattle.record.specs.Layout.{record_of}
use Rattle.step.specs.World.{World, Roms}
use Rattle.step.specs.Step.{step_of}
use Rattle.good.proofs.Keeps.{step_keeps}
use Rattle.good.proofs.Lengths.{step_lengths, step_whole}
use Rattle.undo.proofs.Laws.{cored}
use Rattle.restored.proofs.Notes.{note_long, undoes}
use Rattle.restored.proofs.Fits.{note_fits}
use Rattle.marks.specs.Index.{distance_in}
use Rattle.back.specs.Back.{both}
use Rattle.back.specs.Allowed.{Allowed}

-- ROMs of bytes
module _ (roms : Roms) (execution : Below 256 roms.execution) (bootstrap : Below 256 roms.bootstrap) where
  keeps : (w : World) → Allowed roms w → Allowed roms (step_of roms w)
  keeps w a =
      let some : 0 < length w.cpu.tlb = omega (arith, a.good.typed.sized.tlb) in
      record {
        good = step_keeps roms execution bootstrap w (omega (arith, a.short)) a.whole a.good;
        whole = step_whole roms w a.whole some;
        short = rw (step_lengths roms w a.whole some).paper a.short;
      }

  pub laws : Laws (both roms) (Allowed roms)
  laws =
      record {
        keeps = keeps;
        noted = λ tag w a. note_long (distance_in tag) roms w a.good;
        fits = λ tag w a. note_fits (distance_in tag) roms w a.good a.whole;
        undoes = λ tag w a. undoes (distance_in tag) roms w a.good a.whole;
        cored = λ slot w. cored (record_of slot) w;
      }
