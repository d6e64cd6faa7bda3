-- `decide::part::with_byte` meets its contract: at each of the four places, the bytes below, the new one, and those above.
use Prim.Native.Nat.{◌/◌, ◌%◌}
use mathlib.Core.Path.{◌≡◌}
use native.Mathlib.Omega.{arith}
use Rattle.word.specs.Little.{to_bytes}
use Rattle.memory.specs.Memory.{stored_at}
use Rattle.decide.proofs.Bytes.{three}
use Rattle.decide.specs.Part.{with_bytes}
use Rattle.decide.proofs.part.with_byte.Goals as goal

pub returns-in-0 : goal.returns-in-0
unfolding with_bytes stored_at to_bytes
returns-in-0 c = rw (c.in-0.is, three 0 1 3 c.args.word c.args.x (c.args.word / 256)) (omega arith)

pub returns-in-1 : goal.returns-in-1
unfolding with_bytes stored_at to_bytes
returns-in-1 c = rw (c.in-1.is, three 1 1 2 c.args.word c.args.x (c.args.word / 256 / 256)) (omega arith)

pub returns-in-2 : goal.returns-in-2
unfolding with_bytes stored_at to_bytes
returns-in-2 c = rw (c.in-2.is, three 2 1 1 c.args.word c.args.x (c.args.word / 256 / 256 / 256)) (omega arith)

pub returns-in_default : goal.returns-in_default
unfolding with_bytes stored_at to_bytes
returns-in_default c = let last : c.args.at % 4 ≡ 3 = omega arith in rw (last, three 3 1 0 c.args.word c.args.x (c.args.word / 256 / 256 / 256 / 256)) (omega arith)
