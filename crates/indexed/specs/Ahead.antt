-- What a machine gives for the index as it runs, and what `ring` runs then: the tag of a record is the distances that it keeps, and beside the state stand the
-- bytes of the index.
use Rattle.std.specs.Prelude.{ℕ, zero, suc, ◌/◌, Bool, false, not, cond, List, [], map, eqb, ltb}
use Rattle.ring.specs.Slots.{Ring, next_slot, slot_back, slot}
use Rattle.ring.specs.Machine.{Forward}
use Rattle.std.specs.Prelude.{Option, Some, None}
use Rattle.frames.specs.OnHand.{Touch}
use Rattle.frames.specs.Keep.{Kept, up_to, distance}
use Rattle.frames.specs.Bytes.{whole, entry_at, replace_all_in, mark_all_in}

-- what a record says of one place that its step wrote: the word before the step, and the distance to the frame's last changer
pub record Noted : Type 0 where
  pub place : ℕ
  pub old : ℕ
  pub saved : ℕ

-- forwards
pub record Ahead : Type 1 where
  pub State : Type 0
  pub step : State → State
  pub stops : State → Bool
  pub halts : State → Bool
  pub size : ℕ
  -- the record, with the distances that it is to keep, in the order of the places
  pub note : List ℕ → State → List ℕ
  pub clock : State → ℕ
  -- the word of RAM at a place
  pub word : State → ℕ → ℕ
  -- the places that the step from here writes
  pub places : State → List ℕ
  -- what a record says
  pub noted : List ℕ → List Noted
  -- a record has room for distances below this
  pub bound : ℕ

abbrev pub frame_of : ℕ → ℕ
frame_of place = place / 4096

-- a place with what a record kept of it; whether it changed cannot be told from the record alone, and no update asks
abbrev pub bare_of : Noted → Kept
bare_of w = record { touch = record { frame = frame_of w.place; changed = false }; saved = w.saved }

-- with m + 1 slots: how many are on hand below the record of the next step
abbrev pub below_of : ℕ → Ring → ℕ
below_of m g = cond (ltb m g.hand) m g.hand

-- what the record of the step at `clock`, with h on hand below it, keeps of a place
abbrev pub distance_of : ℕ → ℕ → List ℕ → ℕ → ℕ
distance_of clock h index place = up_to h (distance whole clock (entry_at index (frame_of place)))

module _ (a : Ahead) where
  abbrev pub bare : List ℕ → List Kept
  bare r = map bare_of (a.noted r)

  -- what the step from s touches
  abbrev pub touch_of : a.State → ℕ → Touch
  touch_of s p = record { frame = frame_of p; changed = not (eqb (a.word s p) (a.word (a.step s) p)) }

  abbrev pub touches : a.State → List Touch
  touches s = map (touch_of s) (a.places s)

  -- the index once the oldest record, if all m + 1 slots are on hand, has dropped off: it is the one in the next slot
  abbrev pub dropped_of : ℕ → Ring → a.State → List ℕ → List ℕ
  dropped_of m g s x =
      cond (ltb m g.hand) (replace_all_in (slot_back whole (a.clock s) m) (λ k. None) (bare (slot a.size g.bytes g.next)) x) x

  -- the distances that the record of the step from s keeps, and the index after that step; with no slots nothing is kept
  abbrev pub tag_of : ℕ → Ring → a.State → List ℕ → List ℕ
  tag_of zero g s x = []
  tag_of (suc m) g s x = map (distance_of (next_slot whole (a.clock s)) (below_of m g) (dropped_of m g s x)) (a.places s)

  abbrev pub onward_of : ℕ → Ring → a.State → List ℕ → List ℕ
  onward_of zero g s x = x
  onward_of (suc m) g s x = mark_all_in (next_slot whole (a.clock s)) (touches s) (dropped_of m g s x)

  abbrev pub forward_of : Forward
  forward_of =
      record {
        State = a.State;
        step = a.step;
        stops = a.stops;
        halts = a.halts;
        size = a.size;
        Tag = List ℕ;
        note = a.note;
        Side = List ℕ;
        tag = tag_of;
        onward = onward_of;
      }
