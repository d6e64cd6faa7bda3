-- A word of 32 bits as four bytes, the most significant first.
use Rattle.std.specs.Prelude.{ℕ, ◌+◌, ◌*◌, ◌/◌, ◌%◌, List, [], ◌∷◌, get_or}

-- the four bytes of a word
abbrev pub word_bytes : ℕ → List ℕ
word_bytes w = w / 0x1000000 ∷ w / 0x10000 % 256 ∷ w / 256 % 256 ∷ w % 256 ∷ []

-- the word of four bytes
abbrev pub word_of : ℕ → ℕ → ℕ → ℕ → ℕ
word_of a b c d = ((a * 256 + b) * 256 + c) * 256 + d

-- the word that starts at a place
unfoldable pub word_at : List ℕ → ℕ → ℕ
word_at bs at = word_of (get_or bs at 0) (get_or bs (at + 1) 0) (get_or bs (at + 2) 0) (get_or bs (at + 3) 0)
