-- Which bytes keep the layout, and of which records they are.
use Rattle.std.specs.Prelude.{ℕ, ◌+◌, ◌%◌, ◌^◌, ◌≡◌, Bool, true, false, cond, ◌&&◌, ◌||◌, List, ltb, eqb, length, get_or}
use Rattle.word.specs.Lists.{every, Below}
use Rattle.word.specs.Map.{bit}
use Rattle.word.specs.Sizes.{table_size, devices}
use Rattle.word.specs.Number.{between}
use Rattle.printer.specs.declared.saved.SavedPaper.{SavedPaper}
use Rattle.record.specs.declared.Record.{Record}
use Rattle.record.specs.declared.Saved.{Saved}
use Rattle.record.specs.declared.Saved.TheVariants.{Nothing, Register, TlbRow, RamWord}
use Rattle.record.specs.Layout.{distance_room, layout_of, saved_base, unused_base, unused_words, slot_word, paper_at}

-- a printer that did not write has 0 for its byte
abbrev pub byte_keeps : SavedPaper → ℕ → Bool
byte_keeps p n = bit n p.mask || eqb (get_or p.bytes n 0) 0

-- the eight printers have eight bits
unfoldable pub paper_keeps : SavedPaper → Bool
paper_keeps p = ltb p.mask 256 && every devices (byte_keeps p)

-- a register 1 to 31, a row of the table, a RAM place that is a multiple of 4 with a distance of 16 bits; and 0 where the kind needs no word
unfoldable pub saved_keeps : ℕ → ℕ → ℕ → ℕ → Bool
saved_keeps kind which first second =
    cond (eqb kind 0) (eqb which 0 && eqb first 0 && eqb second 0)
    (cond (eqb kind 1) (between 1 31 which && eqb second 0)
    (cond (eqb kind 2) (ltb which table_size) (cond (eqb kind 3) (eqb (which % 4) 0 && ltb second distance_room) false)))

-- the words that are unused are 0
abbrev pub rest_keeps : (ℕ → ℕ) → Bool
rest_keeps word = every unused_words (λ (k : ℕ). eqb (word (unused_base + k)) 0)

abbrev pub words_keep : (ℕ → ℕ) → Bool
words_keep word =
    saved_keeps (word saved_base) (word (saved_base + 1)) (word (saved_base + 2)) (word (saved_base + 3)) && paper_keeps (paper_at word) && rest_keeps word

-- the bytes of a slot keep the layout
unfoldable pub keeps_layout : List ℕ → Bool
keeps_layout slot = words_keep (slot_word slot)

-- ---- aids to proofs: nothing that a reader must believe

-- ---- the same of a record

abbrev pub saved_ranged : Saved → Bool
saved_ranged Nothing = true
saved_ranged (Register n old) = between 1 31 n
saved_ranged (TlbRow i row) = ltb i table_size
saved_ranged (RamWord place old distance) = eqb (place % 4) 0 && ltb distance distance_room

-- the records that have bytes: the arrays have their lengths, every number is a word or a byte, and the ranges
pub record Ranged (r : Record) : Type 0 where
  pub printers : length r.printers ≡ devices
  pub eight : length r.paper.bytes ≡ devices
  pub bytes : Below 256 r.paper.bytes
  pub small : Below (2 ^ 32) (layout_of r)
  pub saved : saved_ranged r.saved ≡ true
  pub paper : paper_keeps r.paper ≡ true
