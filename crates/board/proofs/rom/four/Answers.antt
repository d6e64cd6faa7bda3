-- `board::rom::four` meets its contract: the part's length, `at + 4 - at`, is 4.
use mathlib.Core.Path.{◌≡◌}
use Prim.Native.Nat.{◌+◌, ◌-◌}
use native.Mathlib.Omega.{arith}
use Rattle.board.proofs.rom.four.Goals as goal

pub returns : goal.returns
returns c = let size : c.args.at + 4 - c.args.at ≡ 4 = omega arith in rw size
