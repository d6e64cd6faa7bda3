-- `isa::decode::memory` meets its contract: its last arm by the rest of the table.
use mathlib.Core.Path.{refl}
use mathlib.Core.List.{List, [], ◌∷◌}
use Prim.Native.Nat.{ℕ}
use native.Mathlib.Omega.{arith}
use Rattle.isa.specs.Opcode.{opcodes, none}
use Rattle.word.proofs.Rest.{rest}
use Rattle.isa.proofs.decode.memory.Goals as goal

-- the keys of the `match`, from the last to the first
abbrev keys : List ℕ
keys = 59 ∷ 58 ∷ 57 ∷ 51 ∷ 50 ∷ 49 ∷ 46 ∷ 43 ∷ 42 ∷ 41 ∷ 40 ∷ 38 ∷ 37 ∷ 36 ∷ 35 ∷ 34 ∷ 33 ∷ 32 ∷ []

pub returns-in_default : goal.returns-in_default
returns-in_default c = rw (rest opcodes none none keys 32 32 refl _ (omega arith) (omega arith) c.in_default.in_default-own.rest)
