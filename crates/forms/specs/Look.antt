-- The forms of `x` and `xp`: behind a slash a count, a format and a unit, each with what counts where it is not there.
use Rattle.std.specs.Prelude.{Bool, cond, Result, Ok, Err, List, [], ◌∷◌, ℕ}
use Rattle.text.specs.Number.{decimal_at}
use Rattle.text.specs.declared.found.Number.{Number}
use Rattle.text.specs.declared.found.NoNumber.{NoNumber}
use Rattle.text.specs.declared.found.NoNumber.TheVariants.{TooLarge, Nothing}
use Rattle.forms.specs.Words as words
use Rattle.piece.specs.Mark.{goes_on, fails_at, word_of}
use Rattle.piece.specs.Behind.{counted_of}
use Rattle.forms.specs.declared.kinds.Format.TheVariants.{Hex, Signed, Unsigned, Character}
use Rattle.forms.specs.declared.kinds.Unit.TheVariants.{Byte, Half, Word}
use Rattle.piece.specs.declared.mark.Mark.{Mark}
use Rattle.piece.specs.declared.mark.Found.{Found}
use Rattle.forms.specs.declared.kinds.Look.{Look}
use Rattle.forms.specs.declared.look.Shape.{Shape}
use Rattle.forms.specs.declared.kinds.Format.{Format}
use Rattle.forms.specs.declared.kinds.Unit.{Unit as Size}

abbrev pub times_of : Mark → Result Number NoNumber → Found ℕ
times_of m (Ok n) = record { value = n.value; mark = goes_on m n.to }
times_of m (Err (TooLarge place)) = record { value = 0; mark = fails_at m place }
times_of m (Err (Nothing place)) = record { value = 1; mark = m }

-- what the first of the letters that stands there means, or what counts where none does
abbrev pub letter_of : {A : Type 0} → List ℕ → Mark → List (ℕ × A) → A → Found A
letter_of line m [] or = record { value = or; mark = m }
letter_of line m (p ∷ ps) or = cond (word_of line m (p.0 ∷ [])).fits (record { value = p.1; mark = word_of line m (p.0 ∷ []) }) (letter_of line m ps or)

unfoldable pub format_of : List ℕ → Mark → Found Format
format_of line m = letter_of line m ((120, Hex) ∷ (100, Signed) ∷ (117, Unsigned) ∷ (99, Character) ∷ []) Hex

unfoldable pub unit_of : List ℕ → Mark → Found Size
unit_of line m = letter_of line m ((98, Byte) ∷ (104, Half) ∷ (119, Word) ∷ []) Word

abbrev pub shaped_of : Found ℕ → Found Format → Found Size → Shape
shaped_of n f u = record { count = n.value; format = f.value; unit = u.value; mark = u.mark }

-- what stands behind a slash that was read
abbrev pub behind_of : List ℕ → Mark → Shape
behind_of line slash =
    let n : Found ℕ = times_of slash (decimal_at line slash.at) in
    let f : Found Format = format_of line n.mark in
    shaped_of n f (unit_of line f.mark)

unfoldable pub shape_of : List ℕ → Mark → Shape
shape_of line m =
    cond (word_of line m words.slash).fits (behind_of line (word_of line m words.slash))
    (record { count = 1; format = Hex; unit = Word; mark = m })

abbrev pub seen_of : Shape → Found ℕ → Bool → Found Look
seen_of s n physical = record
    { mark = n.mark; value = record { count = s.count; format = s.format; unit = s.unit; address = n.value; physical = physical } }

unfoldable pub looking_of : List ℕ → Mark → List ℕ → Bool → Found Look
looking_of line m word physical =
    let s : Shape = shape_of line (word_of line m word) in
    seen_of s (counted_of line s.mark) physical
