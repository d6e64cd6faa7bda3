-- The forms that several commands share, and which of two readings of a line counts.
use Rattle.std.specs.Prelude.{cond, List, [], ◌∷◌, ℕ, ltb}
use Rattle.piece.specs.Mark.{end_of, word_of}
use Rattle.piece.specs.Behind.{counted_of}
use Rattle.piece.specs.declared.mark.Mark.{Mark}
use Rattle.piece.specs.declared.mark.Found.{Found}
use Rattle.forms.specs.declared.form.Form.{Form}
use Rattle.forms.specs.declared.form.Reading.{Reading}

-- the one that fits; where none does, the one that fits further
unfoldable pub better_of : Reading → Reading → Reading
better_of a b = cond a.mark.fits a (cond b.mark.fits b (cond (ltb a.mark.reached b.mark.reached) b a))

abbrev pub best_of : Reading → List Reading → Reading
best_of r [] = r
best_of r (s ∷ rs) = best_of (better_of r s) rs

-- a word alone
abbrev pub plain_of : List ℕ → Mark → List ℕ → Form → ℕ → Reading
plain_of line m first form value = record { mark = end_of line (word_of line m first); form = form; value = value }

-- a word and a number
abbrev pub with_number : Form → Found ℕ → Reading
with_number form n = record { mark = n.mark; form = form; value = n.value }

abbrev pub numbered_of : List ℕ → Mark → List ℕ → Form → Reading
numbered_of line m first form = with_number form (counted_of line (word_of line m first))
