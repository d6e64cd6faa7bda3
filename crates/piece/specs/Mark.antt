-- How far a form fits a line, and the pieces that forms are made of. A piece that is given a mark that fits no more hands it back.
use Rattle.std.specs.Prelude.{Bool, true, false, cond, Result, Ok, Err, List, [], ◌∷◌, ℕ, suc, ◌+◌, eqb, ltb, leb, length, get_or, drop}
use Rattle.text.specs.Head.{head_of}
use Rattle.text.specs.Number.{number_of}
use Rattle.text.specs.declared.found.Number.{Number}
use Rattle.text.specs.declared.found.NoNumber.{NoNumber}
use Rattle.text.specs.declared.found.NoNumber.TheVariants.{TooLarge, Nothing}
use Rattle.piece.specs.declared.mark.Mark.{Mark}
use Rattle.piece.specs.declared.mark.Found.{Found}
use Rattle.piece.specs.declared.mark.Span.{Span}

abbrev pub goes_on : Mark → ℕ → Mark
goes_on m place = record { at = place; fits = true; reached = m.reached }

-- `reached` is the furthest place at which something that was tried did not fit
abbrev pub fails_at : Mark → ℕ → Mark
fails_at m place = record { at = m.at; fits = false; reached = cond (ltb m.reached place) place m.reached }

-- ---- what stands at a place
unfoldable pub stands_of : List ℕ → ℕ → ℕ → Bool
stands_of line place byte = cond (ltb place (length line)) (eqb (get_or line place 0) byte) false

abbrev pub is_space : ℕ → Bool
is_space b = eqb b 32

abbrev pub is_name_byte : ℕ → Bool
is_name_byte b = ltb 32 b

abbrev pub behind_spaces : List ℕ → ℕ → ℕ
behind_spaces line from = from + head_of is_space (drop from line)

abbrev pub behind_name : List ℕ → ℕ → ℕ
behind_name line from = from + head_of is_name_byte (drop from line)

-- how many bytes at the head are those of a word
unfoldable pub agreed_of : (word s : List ℕ) → ℕ
agreed_of [] s = 0
agreed_of (b ∷ w) [] = 0
agreed_of (b ∷ w) (a ∷ s) = cond (eqb a b) (suc (agreed_of w s)) 0

-- ---- the pieces: one space or more
unfoldable pub gap_of : List ℕ → Mark → Mark
gap_of line m = cond m.fits (cond (stands_of line m.at 32) (goes_on m (behind_spaces line m.at)) (fails_at m m.at)) m

-- the line's end, and spaces before it
unfoldable pub end_of : List ℕ → Mark → Mark
end_of line m =
    cond m.fits
    (cond (leb (length line) (behind_spaces line m.at)) (goes_on m (behind_spaces line m.at)) (fails_at m (behind_spaces line m.at)))
    m

-- the bytes of a word: a place in it fails where the line's byte is another
abbrev pub word_from : Mark → List ℕ → ℕ → Mark
word_from m word n = cond (eqb n (length word)) (goes_on m (m.at + n)) (fails_at m (m.at + n))

unfoldable pub word_of : List ℕ → Mark → List ℕ → Mark
word_of line m word = cond m.fits (word_from m word (agreed_of word (drop m.at line))) m

abbrev pub count_of : Mark → Result Number NoNumber → Found ℕ
count_of m (Ok n) = record { value = n.value; mark = goes_on m n.to }
count_of m (Err (TooLarge place)) = record { value = 0; mark = fails_at m place }
count_of m (Err (Nothing place)) = record { value = 0; mark = fails_at m place }

unfoldable pub number_in : List ℕ → Mark → Found ℕ
number_in line m = cond m.fits (count_of m (number_of line m.at)) (record { value = 0; mark = m })

-- one byte above 0x20 or more
abbrev pub name_mark_of : Mark → ℕ → Mark
name_mark_of m place = cond m.fits (cond (ltb m.at place) (goes_on m place) (fails_at m m.at)) m

abbrev pub name_of : List ℕ → Mark → Found Span
name_of line m = record { value = record { from = m.at; to = behind_name line m.at }; mark = name_mark_of m (behind_name line m.at) }
