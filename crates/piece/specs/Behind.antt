-- What stands behind what was read and a gap.
use Rattle.std.specs.Prelude.{List, ℕ}
use Rattle.piece.specs.Mark.{gap_of, end_of, word_of, number_in, name_of}
use Rattle.piece.specs.declared.mark.Mark.{Mark}
use Rattle.piece.specs.declared.mark.Found.{Found}
use Rattle.piece.specs.declared.mark.Span.{Span}

-- a number behind what was read, at the line's end
abbrev pub counted_of : List ℕ → Mark → Found ℕ
counted_of line m = record { value = (number_in line (gap_of line m)).value; mark = end_of line (number_in line (gap_of line m)).mark }

-- a name behind what was read
abbrev pub named_of : List ℕ → Mark → Found Span
named_of line m = name_of line (gap_of line m)

-- past a word and the gap behind it
abbrev pub past_of : List ℕ → Mark → List ℕ → Mark
past_of line m first = gap_of line (word_of line m first)
