-- The machine of document 01 as `ring` runs it forth and back: what run has of it, and how a record is checked and undone.
use Rattle.std.specs.Prelude.{ℕ, ◌≤◌, cond, List, [], ◌≡◌, ltb, length, Result, Ok, Err}
use Rattle.ring.specs.Machine.{Machine}
use Rattle.ring.specs.Back.{How, Took, take_back, all_fit_core, done, too_far, bad_record}
use Rattle.record.specs.Layout.{record_of}
use Rattle.journal.specs.Journal.{slots_of, Ready}
use Rattle.state.specs.declared.machine.Machine as state
use Rattle.step.specs.World.{Roms, roms_of}
use Rattle.turn.specs.Buffers.{Beside}
use Rattle.indexed.specs.Base.{Base, machine_of}
use Rattle.marks.specs.Index.{ahead}
use Rattle.marks.specs.Steps.{FitsRam}
use Rattle.run.specs.Run.{config_of}
use Rattle.undo.specs.Undo.{View, view_of, undo_view, undo_of}
use Rattle.undo.specs.Fit.{fit_of}
use Rattle.answer.specs.declared.Refusal.{Refusal}
use Rattle.answer.specs.declared.Refusal.TheVariants as refusal
use Rattle.back.specs.declared.Fault.{Fault}
use Rattle.back.specs.declared.Fault.TheVariants.{TooFar, Bad}

-- what run has of it, and one step back
abbrev pub base : Roms → Base
base roms =
    record {
      ahead = ahead roms;
      undo = λ slot w. undo_of (record_of slot) w;
      Core = View;
      core = view_of;
      fit = fit_of;
      undo_core = λ slot v. undo_view (record_of slot) v;
    }

abbrev pub both : Roms → Machine
both roms = machine_of (base roms)

-- Take-back is lent no ROM: none has a part in it (proofs/Roms.antt).
abbrev pub no_roms : Roms
no_roms = roms_of [] []

-- k steps of the machine of an image taken back, with what is lent beside it
abbrev pub back_of : ℕ → state.Machine → Beside → Took (both no_roms)
back_of k m b = take_back (both no_roms) (slots_of b.journal) k (config_of no_roms m b)

-- ---- aids to proofs: nothing that a reader must believe

-- rows 7 and 8 of the refusals
abbrev pub refusal_of : Fault → Refusal
refusal_of TooFar = refusal.TooFar
refusal_of Bad = refusal.BadRecord

-- what a record is checked against, of the machine of an image with RAM and paper of so many bytes
abbrev pub view_in : state.Machine → ℕ → ℕ → View
view_in m ram paper = record { cpu = m.cpu; board = m.board; ram = ram; paper = paper }

abbrev pub how_of : Result Unit Fault → How
how_of (Ok _) = done
how_of (Err TooFar) = too_far
how_of (Err Bad) = bad_record

-- whether k steps can be taken back, of the machine of an image with RAM and paper of so many bytes
abbrev pub asked_of : ℕ → state.Machine → ℕ → ℕ → List ℕ → How
asked_of k m ram paper journal =
    cond (ltb m.journal.on_hand k) too_far
    (cond (all_fit_core (both no_roms) (slots_of journal) journal m.journal.next_slot k (view_in m ram paper)) done bad_record)

-- what rows 1 to 5 and 10 leave of what is lent
pub record Fits (b : Beside) (m : state.Machine) : Type 0 where
  pub short : length b.paper ≤ 65536
  pub ready : Ready b.journal m.journal
  pub framed : FitsRam b.ram b.index

-- What taking back gives and leaves behind the references is what ring's take-back leaves: b' is what is lent as it leaves it.
abbrev pub TakeIs : ℕ → state.Machine → Beside → state.Machine → (b' : Beside) → Type 0
TakeIs k m b r b' = config_of no_roms r b' ≡ (back_of k m b).config
