-- The layout of a step's record: 128 words, least significant byte first. `layout_of` is RECORD.md; `record_at` reads it back, and
-- proofs/RoundTrip.antt shows that the two agree.
use Rattle.std.specs.Prelude.{ℕ, ◌+◌, ◌*◌, cond, List, [], ◌∷◌, ◌++◌, eqb, drop, replicate}
use Rattle.word.specs.Lists.{tabulate, flat, joined}
use Rattle.word.specs.Sizes.{devices}
use Rattle.word.specs.Little.{to_bytes}
use Rattle.memory.specs.Memory.{load_at}
use Rattle.printer.specs.declared.Printer.{Printer}
use Rattle.printer.specs.declared.saved.SavedPaper.{SavedPaper}
use Rattle.state.specs.Layout.{kept_words, core_from, row_words, row_of, printer_words, printer_from}
use Rattle.record.specs.declared.Record.{Record}
use Rattle.record.specs.declared.Saved.{Saved}
use Rattle.record.specs.declared.Saved.TheVariants.{Nothing, Register, TlbRow, RamWord}

-- the distance that is kept with a word of RAM has 16 bits
abbrev pub distance_room : ℕ
distance_room = 65536

-- ---- a record as words

-- the eight bytes are two words
abbrev pub small_words : ℕ → ℕ → ℕ → List ℕ → List ℕ
small_words timer pending mask bytes = timer ∷ pending ∷ mask ∷ load_at 4 bytes 0 ∷ load_at 4 bytes 4 ∷ []

-- the kind, then what it needs, then 0
abbrev pub saved_words : Saved → List ℕ
saved_words Nothing = 0 ∷ 0 ∷ 0 ∷ 0 ∷ []
saved_words (Register n old) = 1 ∷ n ∷ old ∷ 0 ∷ []
saved_words (TlbRow i row) = 2 ∷ i ∷ row_words row
saved_words (RamWord place old distance) = 3 ∷ place ∷ old ∷ distance ∷ []

-- room for the disks of document 02, L4, and for later requests
abbrev pub unused_words : ℕ
unused_words = 65

abbrev pub unused : List ℕ
unused = replicate unused_words 0

-- THE layout: groups of words, one after the other, so that a version adds a group or takes a word that is unused. What a step finds stands first, what it overwrites
-- behind it.
abbrev pub groups_of : Record → List (List ℕ)
groups_of r =
    kept_words r.core
    ∷ small_words r.timer r.pending r.paper.mask r.paper.bytes
    ∷ flat printer_words r.printers
    ∷ saved_words r.saved
    ∷ unused
    ∷ []

unfoldable pub layout_of : Record → List ℕ
layout_of r = joined (groups_of r)

-- the word that each group but the first starts at: behind the group before it
abbrev pub small_base : ℕ
small_base = 14

abbrev pub printers_base : ℕ
printers_base = small_base + 5

abbrev pub saved_base : ℕ
saved_base = printers_base + 5 * devices

abbrev pub unused_base : ℕ
unused_base = saved_base + 4

unfoldable pub record_bytes : Record → List ℕ
record_bytes r = flat (to_bytes 4) (layout_of r)

-- ---- words as a record: word k is `word k`

abbrev pub paper_at : (ℕ → ℕ) → SavedPaper
paper_at word = record { mask = word (small_base + 2); bytes = flat (to_bytes 4) (word (small_base + 3) ∷ word (small_base + 4) ∷ []) }

-- a kind that there is not says nothing
unfoldable pub saved_at : ℕ → ℕ → ℕ → ℕ → Saved
saved_at kind which first second =
    cond (eqb kind 1) (Register which first)
    (cond (eqb kind 2) (TlbRow which (row_of first second)) (cond (eqb kind 3) (RamWord which first second) Nothing))

abbrev pub printer_at : (ℕ → ℕ) → ℕ → Printer
printer_at word i = printer_from (5 * i + printers_base) word

unfoldable pub record_at : (ℕ → ℕ) → Record
record_at word =
    record {
      core = core_from 0 12 word;
      timer = word small_base;
      pending = word (small_base + 1);
      paper = paper_at word;
      saved = saved_at (word saved_base) (word (saved_base + 1)) (word (saved_base + 2)) (word (saved_base + 3));
      printers = tabulate devices (printer_at word);
    }

-- word k of a slot
abbrev pub slot_word : List ℕ → ℕ → ℕ
slot_word slot k = load_at 4 slot (4 * k)

unfoldable pub record_of : List ℕ → Record
record_of slot = record_at (slot_word slot)

-- ---- aids to proofs: nothing that a reader must believe

-- the bytes of a slot from the saved words on
abbrev pub behind_in : List ℕ → List ℕ
behind_in slot = drop (4 * saved_base) slot

-- what is laid down in a slot before a step is decided, of the words that a run holds: all up to the saved words. The old bytes stay from there on, since the oldest record may stand there
unfoldable pub laid_of : List ℕ → List ℕ → List ℕ → List ℕ → List ℕ
laid_of core small printers slot = flat (to_bytes 4) (core ++ (small ++ printers)) ++ behind_in slot

-- what is laid down once it is decided
abbrev pub overwritten_words : Saved → List ℕ
overwritten_words s = saved_words s ++ unused

-- the same, of a record
abbrev pub begun_in : Record → List ℕ → List ℕ
begun_in r = laid_of (kept_words r.core) (small_words r.timer r.pending r.paper.mask r.paper.bytes) (flat printer_words r.printers)
