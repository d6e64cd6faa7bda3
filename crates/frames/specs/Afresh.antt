-- THE INDEX WORKED OUT AFRESH, from what is on hand and the clock alone: a frame's entry is the clock of the newest step that changed it. Clocks count modulo
-- `turn`, and a step's clock is that after its own tick.
use Rattle.std.specs.Prelude.{ℕ, cond, List, [], ◌∷◌}
use Rattle.ring.specs.Slots.{slot_back}
use Rattle.frames.specs.OnHand.{Touch, changes}
use Rattle.std.specs.Prelude.{Option, Some, None}

-- an entry for each frame
abbrev pub Index : Type 0
Index = ℕ → Option ℕ

-- the steps on hand, the newest first, and the clock of the newest
abbrev pub index_of : ℕ → ℕ → List (List Touch) → Index
index_of turn clock [] f = None
index_of turn clock (s ∷ older) f = cond (changes s f) (Some clock) (index_of turn (slot_back turn clock 1) older f)
