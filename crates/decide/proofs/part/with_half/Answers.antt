-- `decide::part::with_half` meets its contract: at both places, the bytes below, the new ones, and those above.
use Prim.Native.Nat.{◌*◌, ◌/◌, ◌%◌}
use mathlib.Core.Path.{◌≡◌}
use native.Mathlib.Omega.{arith}
use Rattle.word.specs.Little.{to_bytes}
use Rattle.memory.specs.Memory.{stored_at}
use Rattle.decide.proofs.Bytes.{three}
use Rattle.decide.specs.Part.{with_bytes}
use Rattle.decide.proofs.part.with_half.Goals as goal

pub returns-then-at-lt2 : goal.returns-then-at-lt2
unfolding with_bytes stored_at to_bytes
returns-then-at-lt2 c = let low : c.args.at % 4 / 2 * 2 ≡ 0 = omega arith in rw (low, three 0 2 2 c.args.word c.args.x (c.args.word / 256 / 256)) (omega arith)

pub returns : goal.returns
unfolding with_bytes stored_at to_bytes
returns c = let high : c.args.at % 4 / 2 * 2 ≡ 2 = omega arith in rw (high, three 2 2 0 c.args.word c.args.x (c.args.word / 256 / 256 / 256 / 256)) (omega arith)
