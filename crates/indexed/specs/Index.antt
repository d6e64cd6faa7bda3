-- THE INDEX WORKED OUT AFRESH from the state and the records on hand, which looks at nothing else: at each record the words of RAM say which places its step
-- changed, and undoing it gives the state for the next.
use Rattle.std.specs.Prelude.{ℕ, not, List, [], ◌∷◌, map, eqb}
use Rattle.frames.specs.OnHand.{Touch}
use Rattle.frames.specs.Afresh.{index_of}
use Rattle.frames.specs.Bytes.{whole, index_bytes}
use Rattle.indexed.specs.Ahead.{Ahead, Noted, frame_of}
use Rattle.indexed.specs.Base.{Base}

-- a place of a record, seen from the state after its step
abbrev pub seen_of : (a : Ahead) → a.State → Noted → Touch
seen_of a s w = record { frame = frame_of w.place; changed = not (eqb w.old (a.word s w.place)) }

module _ (b : Base) where
  -- what the steps of these records touched, the newest first, from the state after the newest
  abbrev pub steps_in : b.ahead.State → List (List ℕ) → List (List Touch)
  steps_in s [] = []
  steps_in s (r ∷ older) = map (seen_of b.ahead s) (b.ahead.noted r) ∷ steps_in (b.undo r s) older

  abbrev pub afresh : ℕ → b.ahead.State → List (List ℕ) → List ℕ
  afresh frames s records = index_bytes frames (index_of whole (b.ahead.clock s) (steps_in s records))
