-- THE RECORD THAT A STEP WRITES IS WELL FORMED in the state that the step leaves.
use Prim.Native.Nat.{ℕ}
use mathlib.Core.Path.{◌≡◌, ap, ◌∙◌}
use mathlib.Core.Bool.{true}
use mathlib.Core.List.{List}
use native.Mathlib.Omega.{arith}
use lib.ListN.{length}
use Rattle.word.proofs.Cond.{and_true}
use Rattle.rules.specs.Rules.{state_keeps}
use Rattle.decide.specs.Lent.{Whole}
use Rattle.record.specs.declared.Record.{Record}
use Rattle.record.specs.Layout.{record_bytes, record_of}
use Rattle.record.specs.Keeps.{keeps_layout}
use Rattle.record.proofs.RoundTrip.{encode_keeps}
use Rattle.step.specs.World.{World, Roms, lent_in}
use Rattle.step.specs.Step.{step_of}
use Rattle.step.specs.Note.{note_of}
use Rattle.good.specs.Good.{machine_in, no_mark, Good}
use Rattle.good.proofs.Lengths.{SameLengths, step_lengths}
use Rattle.undo.specs.Undo.{View, view_of, undo_of}
use Rattle.undo.specs.Fit.{ram_place_fits, paper_places_fit, given_back, fit_of}
use Rattle.restored.proofs.Papers.{places_fit}
use Rattle.restored.proofs.Undoes.{undo_step}
use Rattle.restored.proofs.Notes.{saved_good, note_ranged, recorded}

-- a slot fits where the record that it says does
fit_of_lem : (slot : List ℕ) (v : View) {r : Record} → record_of slot ≡ r → keeps_layout slot ≡ true → ram_place_fits r.saved v.ram ≡ true →
    paper_places_fit r.paper.mask r.printers v.paper ≡ true → state_keeps (given_back r v) v.paper ≡ true → fit_of slot v ≡ true
unfolding fit_of
fit_of_lem slot v is layout word places state = rw is (and_true (and_true (and_true layout word) places) state)

-- whatever distance it keeps
module _ (distance : ℕ) (roms : Roms) (w : World) (good : Good w) (whole : Whole (lent_in roms w)) where
  same : SameLengths w (step_of roms w)
  same = step_lengths roms w whole (omega (arith, good.typed.sized.tlb))

  word_fits : ram_place_fits (note_of distance roms w).saved (length (step_of roms w).ram) ≡ true
  word_fits = rw same.ram (saved_good distance roms w good whole).place

  paper_fits : paper_places_fit (note_of distance roms w).paper.mask (note_of distance roms w).printers (length (step_of roms w).paper) ≡ true
  unfolding note_of
  paper_fits = rw same.paper (places_fit w.board.line.printers w.paper)

  -- what is given back is the state before the step, which keeps the rules
  state_kept : state_keeps (given_back (note_of distance roms w) (view_of (step_of roms w))) (length (step_of roms w).paper) ≡ true
  unfolding undo_of
  state_kept =
      rw same.paper
      (ap (λ (x : World). state_keeps (machine_in x no_mark) (length w.paper)) (undo_step distance roms w good whole) ∙ good.kept)

  pub note_fits : fit_of (record_bytes (note_of distance roms w)) (view_of (step_of roms w)) ≡ true
  note_fits =
      fit_of_lem (record_bytes (note_of distance roms w)) (view_of (step_of roms w)) (recorded distance roms w good whole)
      (encode_keeps (note_of distance roms w) (note_ranged distance roms w good whole)) word_fits paper_fits state_kept
