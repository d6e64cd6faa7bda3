-- The answers of `seek` as numbers, for C: 0 where there is none.
use Rattle.std.specs.Prelude.{ℕ, List, [], ◌∷◌, Option, Some, None, unwrap_or}
use Rattle.seek.specs.declared.Change.{Change}

-- ---- aids to proofs: nothing that a reader must believe

abbrev pub step_number : Option ℕ → ℕ
step_number found = unwrap_or found 0

abbrev pub change_numbers : Option Change → List ℕ
change_numbers (Some c) = c.step ∷ c.old ∷ c.new ∷ []
change_numbers None = 0 ∷ 0 ∷ 0 ∷ []
