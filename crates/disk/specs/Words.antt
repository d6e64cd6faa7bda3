-- The four words of a record that say what it keeps of a disk.
use Rattle.std.specs.Prelude.{ℕ, ◌+◌, ◌*◌, ◌/◌, ◌%◌, ◌<◌, List, [], ◌∷◌}
use Rattle.word.specs.Lists.{Below}
use Rattle.word.specs.Little.{from_bytes, to_bytes}
use Rattle.disk.specs.declared.four.Four.{Four}
use Rattle.disk.specs.declared.saved.Kept.{Kept}
use Rattle.disk.specs.Four.{four_at, bytes_of}

-- two numbers of 16 bits in a word
abbrev pub pair_of : ℕ → ℕ → ℕ
pair_of low high = low % 65536 + 65536 * (high % 65536)

-- "the four bytes that its word overwrote, in place order": a record's words have their least significant byte first
unfoldable pub four_word : Four → ℕ
four_word f = from_bytes (bytes_of f)

unfoldable pub four_from : ℕ → Four
four_from word = four_at (to_bytes 4 word) 0

-- how and cylinder; ticks left and words left; the place in RAM; the four bytes
abbrev pub kept_words : Kept → List ℕ
kept_words k = pair_of k.how k.cylinder ∷ pair_of k.ticks k.words ∷ k.place ∷ four_word k.four ∷ []

-- the words read back
unfoldable pub kept_from : ℕ → ℕ → ℕ → ℕ → Kept
kept_from first second third fourth =
    record { how = first % 65536; cylinder = first / 65536; ticks = second % 65536; words = second / 65536; place = third; four = four_from fourth }

-- ---- aids to proofs: nothing that a reader must believe

-- each part has room in its word
pub record Ranged (k : Kept) : Type 0 where
  pub how : k.how < 4
  pub cylinder : k.cylinder < 65536
  pub ticks : k.ticks < 65536
  pub words : k.words < 65536
  pub bytes : Below 256 (bytes_of k.four)
