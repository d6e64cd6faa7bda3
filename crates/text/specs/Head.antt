-- How many bytes at the head of a list pass a test, up to the first that does not.
use Rattle.std.specs.Prelude.{Bool, cond, List, [], ◌∷◌, ℕ, suc}

unfoldable pub head_of : (ℕ → Bool) → List ℕ → ℕ
head_of p [] = 0
head_of p (b ∷ s) = cond (p b) (suc (head_of p s)) 0
