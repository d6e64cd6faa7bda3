-- The records on hand, the newest first.
use Rattle.std.specs.Prelude.{ℕ, ◌≤◌, ◌<◌, Bool, cond, ◌&&◌, List, [], leb, ltb}
use Rattle.word.specs.Sizes.{record_size}
use Rattle.ring.specs.Slots.{slot, slot_back, records_in}
use Rattle.journal.specs.Journal.{slots_of}

-- the two numbers fit the journal: no more on hand than it has slots, and the next is one of these
abbrev pub fits_in : List ℕ → ℕ → ℕ → Bool
fits_in journal hand next = leb hand (slots_of journal) && ltb next (slots_of journal)

-- of the journal that is lent
abbrev pub held_of : List ℕ → ℕ → ℕ → List (List ℕ)
held_of journal hand next = records_in record_size (slots_of journal) (record { bytes = journal; hand = hand; next = next })

-- with any two numbers: none where these do not fit it
abbrev pub records_of : List ℕ → ℕ → ℕ → List (List ℕ)
records_of journal hand next = cond (fits_in journal hand next) (held_of journal hand next) []

-- ---- aids to proofs: nothing that a reader must believe

-- the same as facts
pub record Fits (journal : List ℕ) (hand next : ℕ) : Type 0 where
  pub most : hand ≤ slots_of journal
  pub place : next < slots_of journal

-- the record of the k-th newest step, counted from 1
abbrev pub kth_of : List ℕ → ℕ → ℕ → List ℕ
kth_of journal next k = slot record_size journal (slot_back (slots_of journal) next k)
