-- `isa::special::shift_or_move` meets its contract: its last arm by the rest of the table.
use mathlib.Core.Path.{refl}
use mathlib.Core.List.{List, [], ◌∷◌}
use Prim.Native.Nat.{ℕ}
use native.Mathlib.Omega.{arith}
use Rattle.isa.specs.Special.{functions, none}
use Rattle.word.proofs.Rest.{rest}
use Rattle.isa.proofs.special.shift_or_move.Goals as goal

-- the keys of the `match`, from the last to the first
abbrev keys : List ℕ
keys = 27 ∷ 26 ∷ 25 ∷ 24 ∷ 19 ∷ 18 ∷ 17 ∷ 16 ∷ 13 ∷ 12 ∷ 9 ∷ 8 ∷ 7 ∷ 6 ∷ 4 ∷ 3 ∷ 2 ∷ 0 ∷ []

pub returns-in_default : goal.returns-in_default
returns-in_default c = rw (rest functions none none keys 32 0 refl _ (omega arith) (omega arith) c.in_default.in_default-own.rest)
