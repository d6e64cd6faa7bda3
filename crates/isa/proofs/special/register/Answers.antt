-- `isa::special::register` meets its contract: its last arm by the rest of the table.
use mathlib.Core.Path.{refl}
use mathlib.Core.List.{List, [], ◌∷◌}
use Prim.Native.Nat.{ℕ}
use native.Mathlib.Omega.{arith}
use Rattle.isa.specs.Special.{functions, none}
use Rattle.word.proofs.Rest.{rest}
use Rattle.isa.proofs.special.register.Goals as goal

-- the keys of the `match`, from the last to the first
abbrev keys : List ℕ
keys = 43 ∷ 42 ∷ 39 ∷ 38 ∷ 37 ∷ 36 ∷ 35 ∷ 34 ∷ 33 ∷ 32 ∷ []

pub returns-in_default : goal.returns-in_default
returns-in_default c = rw (rest functions none none keys 32 32 refl _ (omega arith) (omega arith) c.in_default.in_default-own.rest)
