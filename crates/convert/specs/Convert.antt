-- Document 02, L2: "Old images answer 5; one call converts the version before, .. and no steps on hand." Since L4 the version before is 2, which has no disks.
use Rattle.std.specs.Prelude.{ℕ, ◌+◌, ◌*◌, ◌/◌, ◌%◌, Bool, cond, ◌&&◌, List, ◌++◌, ◌≡◌, eqb, leb, length, get_or, replicate, Ok, Err}
use Rattle.word.specs.Big.{word_at}
use Rattle.state.specs.declared.machine.Machine.{Machine}
use Rattle.state.specs.Layout.{disk_words, disks_base, body_of, image_length, machine_of, bytes_of}
use Rattle.rules.specs.Rules.{state_keeps, journal_keeps}
use Rattle.answer.specs.Answer.{packed_of, Answer, done_with}
use Rattle.answer.specs.Lent.{paper_fits}
use Rattle.answer.specs.declared.Reason.TheVariants.{NoReason}
use Rattle.answer.specs.declared.Refusal.TheVariants.{Paper, Journal, Image}

-- ---- the version before: its image ends before the words that L4 adds, and its record has 256 bytes

-- the length word: 505
abbrev pub old_body : ℕ
old_body = body_of disks_base

-- 509 bytes
abbrev pub old_length : ℕ
old_length = 4 + old_body

abbrev pub old_record : ℕ
old_record = 256

-- row 4 as it was: "journal is over 16,777,216 bytes or not a multiple of 256 (0 is allowed)"
abbrev pub journal_before : ℕ → Bool
journal_before len = leb len 16777216 && eqb (len % old_record) 0

-- length word 505, version 2
abbrev pub header_before : List ℕ → Bool
header_before old = eqb (word_at old 0) old_body && eqb (get_or old 4 0) 2

-- the old words, and 0 for the disks'
unfoldable pub machine_before : List ℕ → Machine
machine_before old = machine_of (old ++ replicate (4 * disk_words) 0)

-- the rules of version 2, with slots of 256 bytes
unfoldable pub keeps_before : List ℕ → ℕ → ℕ → Bool
keeps_before old paper journal =
    let m = machine_before old in
    header_before old && (state_keeps m paper && journal_keeps m.journal (journal / old_record))

-- ---- the call

-- "no steps on hand"; the slots are others, so that the first is next
abbrev pub emptied : Machine → Machine
emptied m = record { cpu = m.cpu; board = m.board; journal = record { on_hand = 0; next_slot = 0 } }

-- row 5: either image is of another length, or the old one breaks a rule of its version
abbrev pub images_fit : List ℕ → List ℕ → ℕ → ℕ → Bool
images_fit old image paper journal = eqb (length old) old_length && eqb (length image) image_length && keeps_before old paper journal

-- the lowest number that applies; `paper` and `journal` are the lengths lent
abbrev pub convert_answer : List ℕ → List ℕ → ℕ → ℕ → Answer
convert_answer old image paper journal =
    cond (paper_fits paper)
    (cond (journal_before journal) (cond (images_fit old image paper journal) (done_with 0 NoReason) (Err Image)) (Err Journal))
    (Err Paper)

-- a refusal writes nothing
abbrev pub image_after : Answer → List ℕ → List ℕ → List ℕ
image_after (Ok d) old image = bytes_of (emptied (machine_before old))
image_after (Err refusal) old image = image

abbrev pub convert_image : List ℕ → List ℕ → ℕ → ℕ → List ℕ
convert_image old image paper journal = image_after (convert_answer old image paper journal) old image

-- all that the call says: the answer, and every byte of the image that it is to write
pub record ConvertIs (old image : List ℕ) (paper journal : ℕ) (answer : Answer) (after : List ℕ) : Type 0 where
  pub answer_is : answer ≡ convert_answer old image paper journal
  pub image_is : after ≡ convert_image old image paper journal

-- the same for C, the answer as one number
pub record PackedConvertIs (old image : List ℕ) (paper journal packed : ℕ) (after : List ℕ) : Type 0 where
  pub answer_is : packed ≡ packed_of (convert_answer old image paper journal)
  pub image_is : after ≡ convert_image old image paper journal
