-- Document 02, L6, the question: "The panel gives a physical word address and gets the latest step on hand that altered that word, with old and new value, or
-- 'none on hand'". What is answered, and every byte of the answer buffer. All else is only read.
use Rattle.std.specs.Prelude.{◌≡◌, ℕ, ◌-◌, ◌/◌, ◌%◌, ◌^◌, ◌≤◌, Bool, cond, ◌&&◌, List, [], ◌∷◌, length, ◌==◌, Ok, Err, Option, Some, None}
use Rattle.word.specs.Lists.{flat}
use Rattle.word.specs.Big.{word_bytes}
use Rattle.ring.specs.Slots.{slot_back}
use Rattle.ring.specs.Back.{all_fit}
use Rattle.journal.specs.Journal.{slots_of}
use Rattle.clock.specs.Tick.{time_of}
use Rattle.board.specs.Places.{ram_base, spans}
use Rattle.frames.specs.Bytes.{whole}
use Rattle.state.specs.Layout.{machine_of}
use Rattle.state.specs.declared.machine.Machine.{Machine}
use Rattle.step.specs.World.{world_in}
use Rattle.turn.specs.Buffers.{Beside, Buffers}
use Rattle.back.specs.Back.{both, no_roms}
use Rattle.seek.specs.Seek.{last_change_of}
use Rattle.seek.specs.declared.Change.{Change}
use Rattle.std.specs.Result.{result_and}
use Rattle.answer.specs.Lent.{index_fits, Test, passed}
use Rattle.answer.specs.declared.Reason.TheVariants.{NoReason}
use Rattle.answer.specs.declared.Refusal.TheVariants.{BadRecord, Index, Word, Room}
use Rattle.answer.specs.Answer.{Answer, done_with}
use Rattle.backward.specs.Back.{rule_test, back_test, Judged}

-- ---- the refusals

-- row 8: "a bad record on hand answers 8". Each is well formed in the state that undoing the newer ones gives, as take-back of all of them asks
abbrev pub records_fit : Machine → Beside → Bool
records_fit m b =
    all_fit (both no_roms) (slots_of b.journal) b.journal m.journal.next_slot m.journal.on_hand (world_in m b.ram b.paper)

-- row 11: "an address outside RAM or not a multiple of 4", of RAM of so many bytes
abbrev pub word_fits : ℕ → ℕ → Bool
word_fits ram address = spans ram_base ram address && address % 4 == 0

-- rows 10, 11 and 12: the index's length, the address, and whether the answer has room for four words and no more
unfoldable pub rest_test : (ram index address room : ℕ) → Test
rest_test ram index address room =
    cond (index_fits ram index) (cond (word_fits ram address) (cond (room == 16) passed (Err Room)) (Err Word)) (Err Index)

-- row 8, then these
unfoldable pub asked_test : Machine → Beside → (address room : ℕ) → Test
asked_test m b address room = cond (records_fit m b) (rest_test (length b.ram) (length b.index) address room) (Err BadRecord)

-- rows 1, 3, 4 and 5 are those of take-back: "The lowest number that applies is answered"
abbrev pub last_write_test : Buffers → (address room : ℕ) → Test
last_write_test b address room = result_and (back_test b) (asked_test (machine_of b.image) b.beside address room)

-- ---- the answer

-- a word of RAM by its offset there
abbrev pub place_of : ℕ → ℕ
place_of address = address - ram_base

-- "the latest step on hand that altered that word, with old and new value": it is the k-th newest, 1 being the newest
abbrev pub found_by : Machine → (ram journal : List ℕ) → ℕ → Option Change
found_by m ram journal address = last_change_of ram journal m.journal.on_hand m.journal.next_slot (place_of address)

abbrev pub found_in : Buffers → ℕ → Option Change
found_in b address = found_by (machine_of b.image) b.beside.ram b.beside.journal address

-- the step's clock value "(after its tick)", high and low word, and the word before and after it. The newest step on hand has the image's clock, the k-th newest
-- that less k - 1, modulo 2^64. Where none on hand altered the word, all 0
abbrev pub answer_words : ℕ → Option Change → List ℕ
answer_words time None = 0 ∷ 0 ∷ 0 ∷ 0 ∷ []
answer_words time (Some c) =
    let clock = slot_back whole time (c.step - 1) in
    clock / 2 ^ 32 ∷ clock % 2 ^ 32 ∷ c.old ∷ c.new ∷ []

-- taking back as many steps as are reported stands the machine just before that one; 0 says that none on hand altered the word
abbrev pub done_of : Option Change → Answer
done_of None = done_with 0 NoReason
done_of (Some c) = done_with c.step NoReason

-- a refusal writes nothing
abbrev pub answer_by : Test → Option Change → Answer
answer_by (Ok _) found = done_of found
answer_by (Err refusal) found = Err refusal

abbrev pub bytes_by : Test → ℕ → Option Change → List ℕ → List ℕ
bytes_by (Ok _) time found before = flat word_bytes (answer_words time found)
bytes_by (Err refusal) time found before = before

abbrev pub time_in : Buffers → ℕ
time_in b = time_of (machine_of b.image).board.clock

abbrev pub last_write_answer : Buffers → (address room : ℕ) → Answer
last_write_answer b address room = answer_by (last_write_test b address room) (found_in b address)

abbrev pub last_write_bytes : Buffers → ℕ → List ℕ → List ℕ
last_write_bytes b address before = bytes_by (last_write_test b address (length before)) (time_in b) (found_in b address) before

-- THE CALL: its answer, and every byte of the answer buffer, from those before
pub record LastWriteIs (b : Buffers) (address : ℕ) (before : List ℕ) (r : Answer) (after : List ℕ) : Type 0 where
  pub answer_is : r ≡ last_write_answer b address (length before)
  pub bytes_is : after ≡ last_write_bytes b address before

-- ---- aids to proofs: nothing that a reader must believe

-- what rows 1 to 5 leave of what is lent
pub record Fits (b : Beside) (m : Machine) : Type 0 where
  pub judged : Judged b m
  pub few_frames : length b.ram ≤ 0x1000000

-- a step is counted from 1
abbrev pub Counted : Option Change → Type 0
Counted None = Unit
Counted (Some c) = 1 ≤ c.step

-- the same call by what its tests come to
pub record Leaves (t : Test) (time : ℕ) (found : Option Change) (before : List ℕ) (r : Answer) (after : List ℕ) : Type 0 where
  pub answer_is : r ≡ answer_by t found
  pub bytes_is : after ≡ bytes_by t time found before

-- with nothing left to refuse but rows 8, 10, 11 and 12
abbrev pub TriedIs : Machine → Beside → ℕ → List ℕ → Answer → List ℕ → Type 0
TriedIs m b address before r after =
    Leaves (asked_test m b address (length before)) (time_of m.board.clock) (found_by m b.ram b.journal address) before r after

-- and row 5
abbrev pub RuledIs : Buffers → ℕ → List ℕ → Answer → List ℕ → Type 0
RuledIs b address before r after =
    Leaves (result_and (rule_test b) (asked_test (machine_of b.image) b.beside address (length before))) (time_in b) (found_in b address) before r after
