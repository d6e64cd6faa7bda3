-- How the book prints a table: eight codes to a row, so that a code's column is its low three bits.
use Rattle.std.specs.Prelude.{List, ◌∷◌}

abbrev pub row : {A : Type 0} → A → A → A → A → A → A → A → A → List A → List A
row a b c d e f g h rest = a ∷ b ∷ c ∷ d ∷ e ∷ f ∷ g ∷ h ∷ rest
