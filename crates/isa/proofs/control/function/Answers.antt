-- `isa::control::function` meets its contract: its last arm by the rest of the table.
use mathlib.Core.Path.{refl}
use mathlib.Core.List.{List, [], ◌∷◌}
use Prim.Native.Nat.{ℕ}
use native.Mathlib.Omega.{arith}
use Rattle.isa.specs.Cop0.{functions}
use Rattle.isa.specs.declared.instr.Control.TheVariants.{Undefined}
use Rattle.word.proofs.Rest.{rest}
use Rattle.isa.proofs.control.function.Goals as goal

-- the keys of the `match`, from the last to the first
abbrev keys : List ℕ
keys = 16 ∷ 8 ∷ 6 ∷ 2 ∷ 1 ∷ []

pub returns-in_default : goal.returns-in_default
returns-in_default c = rw (rest functions Undefined Undefined keys 64 0 refl _ (omega arith) (omega arith) c.in_default.in_default-own.rest)
