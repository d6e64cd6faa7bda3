-- The same machine back: how a record is checked and undone, and what taking it back does to the index.
use Rattle.std.specs.Prelude.{ℕ, ◌≤◌, ◌<◌, ◌≡◌, Bool, List, [], ◌∷◌, length}
use Rattle.ring.specs.Slots.{next_slot}
use Rattle.ring.specs.Machine.{Machine, Laws}
use Rattle.frames.specs.Keep.{restored}
use Rattle.frames.specs.Bytes.{whole, replace_all_in}
use Rattle.indexed.specs.Ahead.{Noted, Ahead, frame_of, bare, forward_of}

pub record Base : Type 1 where
  pub ahead : Ahead
  pub undo : List ℕ → ahead.State → ahead.State
  pub Core : Type 0
  pub core : ahead.State → Core
  pub fit : List ℕ → Core → Bool
  pub undo_core : List ℕ → Core → Core

module _ (b : Base) where
  -- the index before a step, from how many are on hand, its record, and the state and the index after it
  abbrev pub backward_of : ℕ → List ℕ → b.ahead.State → List ℕ → List ℕ
  backward_of h r s x =
      let clock = b.ahead.clock s in
      replace_all_in clock (λ k. restored whole clock h k.saved) (bare b.ahead r) x

  abbrev pub machine_of : Machine
  machine_of =
      record {
        forward = forward_of b.ahead;
        undo = b.undo;
        Core = b.Core;
        core = b.core;
        fit = b.fit;
        undo_core = b.undo_core;
        backward = backward_of;
      }

-- ---- aids to proofs: nothing that a reader must believe

-- what the record of the step from s says: its places, their words before it, and the distances that it was given
abbrev pub noted_by : (a : Ahead) → a.State → List ℕ → List ℕ → List Noted
noted_by a s [] ds = []
noted_by a s (p ∷ ps) [] = []
noted_by a s (p ∷ ps) (d ∷ ds) = record { place = p; old = a.word s p; saved = d } ∷ noted_by a s ps ds

abbrev pub Under : ℕ → List ℕ → Type 0
Under k [] = Unit
Under k (d ∷ ds) = (d < k) × Under k ds

abbrev pub Framed : ℕ → List ℕ → Type 0
Framed frames [] = Unit
Framed frames (p ∷ ps) = (frame_of p < frames) × Framed frames ps

-- what is asked of the machine, over a RAM of so many frames
pub record BaseLaws (b : Base) (Good : b.ahead.State → Type 0) (frames : ℕ) : Type 0 where
  pub back : Laws (machine_of b) Good
  pub small : (s : b.ahead.State) → Good s → b.ahead.clock s < whole
  pub ticks : (s : b.ahead.State) → Good s → b.ahead.clock (b.ahead.step s) ≡ next_slot whole (b.ahead.clock s)
  pub inside : (s : b.ahead.State) → Good s → Framed frames (b.ahead.places s)
  pub notes : (s : b.ahead.State) → Good s → (ds : List ℕ) → length ds ≡ length (b.ahead.places s) → Under b.ahead.bound ds →
      b.ahead.noted (b.ahead.note ds s) ≡ noted_by b.ahead s (b.ahead.places s) ds
  pub room : b.ahead.bound ≤ whole
