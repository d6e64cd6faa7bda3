-- The index as the lent bytes: sixteen for each frame, four big-endian words: 1, the clock's high and low word, 0; or all 0.
use Rattle.std.specs.Prelude.{ℕ, zero, suc, ◌+◌, ◌*◌, ◌/◌, ◌%◌, ◌^◌, ◌<◌, Bool, cond, List, [], ◌∷◌, map, length, take, replicate, ◌==◌, nat_lt, slice_index_or}
use Rattle.std.proofs.lemmas.List.Edits.{sets}
use Rattle.word.specs.Lists.{tabulate, flat}
use Rattle.word.specs.Big.{word_bytes, word_at}
use Rattle.ring.specs.Slots.{next_slot, slot_back}
use Rattle.frames.specs.OnHand.{Touch, Event, ran, took}
use Rattle.frames.specs.Afresh.{Index}
use Rattle.frames.specs.Keep.{Kept, up_to, distance, restored, is_at}
use Rattle.std.specs.Prelude.{Option, Some, None}

-- clocks have 64 bits
abbrev pub whole : ℕ
whole = 2 ^ 64

abbrev pub entry_words : Option ℕ → List ℕ
entry_words None = 0 ∷ 0 ∷ 0 ∷ 0 ∷ []
entry_words (Some c) = 1 ∷ c / 2 ^ 32 ∷ c % 2 ^ 32 ∷ 0 ∷ []

abbrev pub entry_bytes : Option ℕ → List ℕ
entry_bytes e = flat word_bytes (entry_words e)

-- the bytes of the index of so many frames
abbrev pub index_bytes : ℕ → Index → List ℕ
index_bytes frames ix = flat entry_bytes (tabulate frames ix)

-- any bytes have an entry for each frame: what does not begin with 1 is nothing
unfoldable pub entry_at : List ℕ → ℕ → Option ℕ
entry_at bytes f =
    cond (word_at bytes (16 * f) == 1) (Some (word_at bytes (16 * f + 4) * 2 ^ 32 + word_at bytes (16 * f + 8))) None

abbrev pub put_entry : List ℕ → ℕ → Option ℕ → List ℕ
put_entry bytes f e = sets bytes (16 * f) (entry_bytes e)

-- an entry that names the step at `clock` becomes e; any other stays
abbrev pub replace_in : ℕ → ℕ → Option ℕ → List ℕ → List ℕ
replace_in clock f e bytes = cond (is_at clock (entry_at bytes f)) (put_entry bytes f e) bytes

-- a step at `clock` changed a frame, or left it
abbrev pub mark_in : ℕ → ℕ → Bool → List ℕ → List ℕ
mark_in clock f changed bytes = cond changed (put_entry bytes f (Some clock)) bytes

-- so for each place that a record keeps, and for each that a step touched
abbrev pub replace_all_in : ℕ → (Kept → Option ℕ) → List Kept → List ℕ → List ℕ
replace_all_in clock e [] bytes = bytes
replace_all_in clock e (k ∷ ks) bytes = replace_all_in clock e ks (replace_in clock k.touch.frame (e k) bytes)

abbrev pub mark_all_in : ℕ → List Touch → List ℕ → List ℕ
mark_all_in clock [] bytes = bytes
mark_all_in clock (t ∷ ts) bytes = mark_all_in clock ts (mark_in clock t.frame t.changed bytes)

-- ---- aids to proofs: nothing that a reader must believe

-- what a step leaves: the bytes, and what its record keeps of the frame
pub record Stepped : Type 0 where
  pub saved : ℕ
  pub bytes : List ℕ

-- the record is made before the mark
abbrev pub note_in : ℕ → ℕ → ℕ → Bool → List ℕ → Stepped
note_in clock h f changed bytes =
    record { saved = up_to h (distance whole clock (entry_at bytes f)); bytes = mark_in clock f changed bytes }

-- the ledger of Keep, with the index in lent bytes: what the code comes to, over any events from a reset
pub record LedgerIn : Type 0 where
  pub clock : ℕ
  pub records : List (List Kept)
  pub bytes : List ℕ

abbrev pub dropped_in : ℕ → LedgerIn → List ℕ
dropped_in m l =
    cond (nat_lt m (length l.records)) (replace_all_in (slot_back whole l.clock m) (λ k. None) (slice_index_or l.records m []) l.bytes) l.bytes

abbrev pub keep_in : ℕ → ℕ → List ℕ → Touch → Kept
keep_in clock h bytes t = record { touch = t; saved = up_to h (distance whole clock (entry_at bytes t.frame)) }

abbrev pub pushed_in : ℕ → List Touch → LedgerIn → LedgerIn
pushed_in zero ts l = record { clock = next_slot whole l.clock; records = l.records; bytes = l.bytes }
pushed_in (suc m) ts l =
    let clock = next_slot whole l.clock in
    let bytes = dropped_in m l in
    let below = take m l.records in
    record { clock = clock; records = map (keep_in clock (length below) bytes) ts ∷ below; bytes = mark_all_in clock ts bytes }

abbrev pub popped_in : List (List Kept) → LedgerIn → LedgerIn
popped_in [] l = l
popped_in (r ∷ older) l =
    record {
      clock = slot_back whole l.clock 1;
      records = older;
      bytes = replace_all_in l.clock (λ k. restored whole l.clock (suc (length older)) k.saved) r l.bytes;
    }

-- reset writes 0 everywhere
abbrev pub ledger_in : ℕ → ℕ → ℕ → List Event → LedgerIn
ledger_in frames n clock [] = record { clock = clock; records = []; bytes = replicate (16 * frames) 0 }
ledger_in frames n clock (ran ts ∷ before) = pushed_in n ts (ledger_in frames n clock before)
ledger_in frames n clock (took ∷ before) = popped_in (ledger_in frames n clock before).records (ledger_in frames n clock before)

-- every frame that a step touches is one of them
abbrev pub Inside : ℕ → List Touch → Type 0
Inside frames [] = Unit
Inside frames (t ∷ ts) = (t.frame < frames) × Inside frames ts

abbrev pub AllInside : ℕ → List Event → Type 0
AllInside frames [] = Unit
AllInside frames (ran ts ∷ before) = Inside frames ts × AllInside frames before
AllInside frames (took ∷ before) = AllInside frames before
