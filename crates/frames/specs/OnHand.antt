-- What a step touched, and what is on hand after steps and take-backs: what each step touched, the newest first, and the clock.
use Rattle.std.specs.Prelude.{ℕ, Bool, false, ◌&&◌, ◌||◌, List, [], ◌∷◌, take, ◌==◌}
use Rattle.ring.specs.Slots.{next_slot, slot_back}

-- a place that a step wrote lies in this frame; `changed` exactly if the word there differs before and after the step
pub record Touch : Type 0 where
  pub frame : ℕ
  pub changed : Bool

-- did a step with these touches change a byte of frame f
abbrev pub changes : List Touch → ℕ → Bool
changes [] f = false
changes (t ∷ ts) f = (t.changed && t.frame == f) || changes ts f

-- ---- aids to proofs: nothing that a reader must believe

-- one step run, with what it touched; one step taken back
pub data Event : Type 0 where
  ran : List Touch → Event
  took : Event

-- the clock, modulo `turn`, is that after the newest step's own tick; so the step k before the newest has slot_back turn clock k, the clock less k
pub record OnHand : Type 0 where
  pub clock : ℕ
  pub steps : List (List Touch)

-- with n slots: a step more pushes out what the slots do not hold; with nothing on hand nothing is taken back
abbrev pub stepped : ℕ → ℕ → List Touch → OnHand → OnHand
stepped turn n ts h = record { clock = next_slot turn h.clock; steps = take n (ts ∷ h.steps) }

abbrev pub less_one : ℕ → List (List Touch) → OnHand → OnHand
less_one turn [] h = h
less_one turn (s ∷ older) h = record { clock = slot_back turn h.clock 1; steps = older }

-- a history has its last event first; it begins with nothing on hand
abbrev pub on_hand : ℕ → ℕ → ℕ → List Event → OnHand
on_hand turn n clock [] = record { clock = clock; steps = [] }
on_hand turn n clock (ran ts ∷ before) = stepped turn n ts (on_hand turn n clock before)
on_hand turn n clock (took ∷ before) = less_one turn (on_hand turn n clock before).steps (on_hand turn n clock before)
