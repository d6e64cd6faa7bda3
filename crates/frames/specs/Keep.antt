-- THE INDEX KEPT STEP BY STEP, as code does it: a step costs the same however many are on hand. Each record on hand keeps for each place that its step
-- touched how many steps before it the frame's last changer was, 0 for none.
use Rattle.std.specs.Prelude.{ℕ, zero, suc, Bool, false, cond, ◌&&◌, List, [], ◌∷◌, map, length, take, ◌==◌, nat_le, nat_lt, slice_index_or}
use Rattle.ring.specs.Slots.{next_slot, slot_back}
use Rattle.frames.specs.OnHand.{Touch, Event, ran, took}
use Rattle.frames.specs.Afresh.{Index}
use Rattle.std.specs.Prelude.{Option, Some, None}

-- a number that is not above k, else 0
abbrev pub up_to : ℕ → ℕ → ℕ
up_to k d = cond (nat_le d k) d 0

-- how many steps before the one at `clock` an entry's step was
abbrev pub distance : ℕ → ℕ → Option ℕ → ℕ
distance turn clock None = 0
distance turn clock (Some c) = slot_back turn clock c

-- the entry d steps before the one at `clock`, if that step is among the h on hand (the one at `clock` counts)
abbrev pub restored : ℕ → ℕ → ℕ → ℕ → Option ℕ
restored turn clock h d = cond (nat_lt 0 d && nat_lt d h) (Some (slot_back turn clock d)) None

abbrev pub is_at : ℕ → Option ℕ → Bool
is_at c None = false
is_at c (Some e) = e == c

-- what a record on hand keeps of one place
pub record Kept : Type 0 where
  pub touch : Touch
  pub saved : ℕ

-- ---- aids to proofs: nothing that a reader must believe

abbrev pub with : Index → ℕ → Option ℕ → Index
with ix f e g = cond (f == g) e (ix g)

-- an entry of frame f that names the step at `clock` becomes e; any other stays
abbrev pub replace : ℕ → ℕ → Option ℕ → Index → Index
replace clock f e ix = cond (is_at clock (ix f)) (with ix f e) ix

-- so for each place that a record keeps
abbrev pub replace_all : ℕ → (Kept → Option ℕ) → List Kept → Index → Index
replace_all clock e [] ix = ix
replace_all clock e (k ∷ ks) ix = replace_all clock e ks (replace clock k.touch.frame (e k) ix)

-- the oldest step, at `clock`, drops off
abbrev pub forget_all : ℕ → List Kept → Index → Index
forget_all clock = replace_all clock (λ k. None)

-- the newest step, at `clock` with h on hand, is taken back
abbrev pub give_back_all : ℕ → ℕ → ℕ → List Kept → Index → Index
give_back_all turn clock h = replace_all clock (λ k. restored turn clock h k.saved)

-- a step at `clock` changed a frame
abbrev pub mark : ℕ → Touch → Index → Index
mark clock t ix = cond t.changed (with ix t.frame (Some clock)) ix

abbrev pub mark_all : ℕ → List Touch → Index → Index
mark_all clock [] ix = ix
mark_all clock (t ∷ ts) ix = mark_all clock ts (mark clock t ix)

-- one step on, one step back

pub record Ledger : Type 0 where
  pub clock : ℕ
  pub records : List (List Kept)
  pub index : Index

-- the index once the oldest record, if all m + 1 slots are on hand, has dropped off
abbrev pub dropped : ℕ → ℕ → Ledger → Index
dropped turn m l =
    cond (nat_lt m (length l.records)) (forget_all (slot_back turn l.clock m) (slice_index_or l.records m []) l.index) l.index

-- what a record keeps of a place: the entry of its frame just before the step, as a distance; h records are on hand below it
abbrev pub keep : ℕ → ℕ → ℕ → Index → Touch → Kept
keep turn clock h ix t = record { touch = t; saved = up_to h (distance turn clock (ix t.frame)) }

abbrev pub pushed : ℕ → ℕ → List Touch → Ledger → Ledger
pushed turn zero ts l = record { clock = next_slot turn l.clock; records = l.records; index = l.index }
pushed turn (suc m) ts l =
    let clock = next_slot turn l.clock in
    let ix = dropped turn m l in
    let below = take m l.records in
    record { clock = clock; records = map (keep turn clock (length below) ix) ts ∷ below; index = mark_all clock ts ix }

abbrev pub popped : ℕ → List (List Kept) → Ledger → Ledger
popped turn [] l = l
popped turn (r ∷ older) l =
    record {
      clock = slot_back turn l.clock 1;
      records = older;
      index = give_back_all turn l.clock (suc (length older)) r l.index;
    }

-- from a reset: every entry is nothing
abbrev pub ledger : ℕ → ℕ → ℕ → List Event → Ledger
ledger turn n clock [] = record { clock = clock; records = []; index = λ f. None }
ledger turn n clock (ran ts ∷ before) = pushed turn n ts (ledger turn n clock before)
ledger turn n clock (took ∷ before) = popped turn (ledger turn n clock before).records (ledger turn n clock before)
