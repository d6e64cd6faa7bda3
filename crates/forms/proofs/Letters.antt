-- Letters that may stand at a mark, one on.
use mathlib.Core.Path.{◌≡◌}
use mathlib.Core.Bool.{true, false}
use mathlib.Core.List.{List, [], ◌∷◌}
use Prim.Native.Nat.{ℕ, ◌+◌, ◌<◌}
use native.Mathlib.Numerals.{add-one}
use lib.ListN.{length, get_or, drop}
use lib.Seq.{drop-cons}
use Rattle.piece.specs.Mark.{word_of}
use Rattle.piece.specs.declared.mark.Mark.{Mark}
use Rattle.forms.specs.Look.{letter_of}

module _ {A : Type 0} (line : List ℕ) (m : Mark) (ps : List (ℕ × A)) (or : A) (i : ℕ) (p : ℕ × A) (h : i < length ps) (e : p ≡ get_or ps i p) where
  pub letter_goes : (word_of line m (p.0 ∷ [])).fits ≡ false → letter_of line m (drop (i + 1) ps) or ≡ letter_of line m (drop i ps) or
  letter_goes f = rw (drop-cons ps i p h, ← e, f, add-one i)

  pub letter_stands : (word_of line m (p.0 ∷ [])).fits ≡ true → record { value = p.1; mark = word_of line m (p.0 ∷ []) } ≡ letter_of line m (drop i ps) or
  letter_stands f = rw (drop-cons ps i p h, ← e, f)
