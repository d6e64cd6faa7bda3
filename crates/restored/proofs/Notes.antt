-- The record that a step writes is as long as a slot, and its bytes say it, whatever distance it keeps: so what is undone by them is the step.
use Prim.Native.Nat.{ℕ}
use mathlib.Core.Path.{◌≡◌, ap, ◌∙◌}
use native.Mathlib.Omega.{arith}
use lib.ListN.{length}
use Rattle.printer.proofs.Notes as printer
use Rattle.decide.specs.Lent.{Whole}
use Rattle.decide.specs.Range.{Within}
use Rattle.record.specs.declared.Record.{Record}
use Rattle.record.specs.Layout.{record_bytes, record_of}
use Rattle.record.specs.Keeps.{Ranged}
use Rattle.record.proofs.Ranges.{Parts, ranged, fits_keeps}
use Rattle.record.proofs.RoundTrip.{decode_encode}
use Rattle.record.proofs.Stored.{length_bytes}
use Rattle.step.specs.World.{World, Roms, lent_in}
use Rattle.step.specs.Step.{effect_in, step_of}
use Rattle.step.specs.Note.{note_of}
use Rattle.good.specs.Good.{machine_in, no_mark, Good}
use Rattle.good.proofs.Parts.{words}
use Rattle.good.proofs.Sound.{good_sound}
use Rattle.undo.specs.Undo.{undo_of}
use Rattle.restored.proofs.Papers.{eight_bytes, bytes_small}
use Rattle.restored.proofs.Saves.{SavedGood, saves}
use Rattle.restored.proofs.Undoes.{within, undo_step}

pub note_long : (distance : ℕ) (roms : Roms) (w : World) → Good w → length (record_bytes (note_of distance roms w)) ≡ 512
unfolding note_of
note_long distance roms w good = length_bytes (note_of distance roms w) good.typed.sized.printers

module _ (distance : ℕ) (roms : Roms) (w : World) (good : Good w) (whole : Whole (lent_in roms w)) where
  pub saved_good : SavedGood (note_of distance roms w).saved (length w.ram)
  unfolding note_of
  saved_good =
      let s = good_sound w good in
      let inside : Within (length w.ram) 16 (effect_in roms w) = rw good.typed.sized.tlb at (within roms w good whole) in
      saves distance w.cpu.regs w.cpu.tlb w.ram s.regs s.rows whole.ram.few s.ram (effect_in roms w) inside

  note_parts : Parts (note_of distance roms w)
  unfolding note_of
  note_parts =
      let s = good_sound w good in
      let ps = w.board.line.printers in
      record {
        printers = good.typed.sized.printers;
        eight = eight_bytes ps w.paper;
        bytes = bytes_small ps w.paper good.paper;
        core = s.core.words;
        timer = s.board.clock 2 (omega arith);
        pending = s.board.words.pending;
        saved_words = saved_good.words;
        printer_words = (words (machine_in w no_mark) good.typed).printers;
        saved = saved_good.ranged;
        paper = fits_keeps _ ps _ (printer.note_fits ps w.paper);
      }

  pub note_ranged : Ranged (note_of distance roms w)
  note_ranged = ranged (note_of distance roms w) note_parts

  pub recorded : record_of (record_bytes (note_of distance roms w)) ≡ note_of distance roms w
  recorded = decode_encode (note_of distance roms w) note_ranged

  pub undoes : undo_of (record_of (record_bytes (note_of distance roms w))) (step_of roms w) ≡ w
  undoes = ap (λ (r : Record). undo_of r (step_of roms w)) recorded ∙ undo_step distance roms w good whole
