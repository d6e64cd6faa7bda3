-- The lent journal and the image's two words for it, as the ring of `ring`.
use Rattle.std.specs.Prelude.{ℕ, ◌+◌, ◌*◌, ◌/◌, ◌≤◌, min, cond, List, eqb, length}
use Rattle.std.proofs.lemmas.List.Edits.{sets}
use Rattle.word.specs.Lists.{flat}
use Rattle.word.specs.Little.{to_bytes}
use Rattle.word.specs.Sizes.{record_size}
use Rattle.ring.specs.Slots.{Ring, Sound, next_slot, slot, put}
use Rattle.record.specs.declared.Record.{Record}
use Rattle.record.specs.declared.Saved.{Saved}
use Rattle.record.specs.declared.Saved.TheVariants.{Nothing}
use Rattle.record.specs.Layout.{saved_base, overwritten_words, begun_in}
use Rattle.state.specs.declared.machine.Journal.{Journal}
use Rattle.printer.specs.declared.saved.SavedPaper.{SavedPaper}
use Rattle.held.specs.Board.{printers_in}
use Rattle.held.specs.Core.{core_in}

-- journal length / 512 (document 02, L4)
abbrev pub slots_of : List ℕ → ℕ
slots_of journal = length journal / record_size

abbrev pub ring_of : Journal → List ℕ → Ring
ring_of mark journal = record { bytes = journal; hand = mark.on_hand; next = mark.next_slot }

-- ---- aids to proofs: nothing that a reader must believe

-- what rows 4 and 5 leave: at most 16,777,216 bytes, and the two words keep their rule
pub record Ready (journal : List ℕ) (mark : Journal) : Type 0 where
  pub few : length journal ≤ 16777216
  pub sound : Sound record_size (slots_of journal) (ring_of mark journal)

-- the record of what a run holds, which saves nothing: the core and the printers are held as words
abbrev pub held_record : List ℕ → ℕ → ℕ → SavedPaper → List ℕ → Record
held_record core timer pending paper words =
    record {
      core = core_in core;
      timer = timer;
      pending = pending;
      paper = paper;
      saved = Nothing;
      printers = printers_in words;
    }

-- A step's record is laid down in two parts, so that the old values need not be kept while the step is decided.

-- Before the step: the record at the next slot up to its saved words; from there on the slot's own stay. Neither word moves, since the record does not count
-- before it is ended.
abbrev pub begun_of : Journal → Record → List ℕ → List ℕ
begun_of mark r journal = cond (eqb (slots_of journal) 0) journal (put journal (record_size * mark.next_slot) (begun_in r (slot record_size journal mark.next_slot)))

-- After the decision: the words of what the step overwrites, which are known only now, at their place in the same slot. Then the record is on hand.
abbrev pub ended_of : Journal → Saved → List ℕ → Ring
ended_of mark s journal =
    cond (eqb (slots_of journal) 0) (ring_of mark journal)
    (record {
      bytes = sets journal (record_size * mark.next_slot + 4 * saved_base) (flat (to_bytes 4) (overwritten_words s));
      hand = min (slots_of journal) (mark.on_hand + 1);
      next = next_slot (slots_of journal) mark.next_slot;
    })

-- the record that the two parts come to: all that was begun, and what was saved at the end
abbrev pub with_saved : Saved → Record → Record
with_saved s r =
    record {
      core = r.core;
      timer = r.timer;
      pending = r.pending;
      paper = r.paper;
      saved = s;
      printers = r.printers;
    }
