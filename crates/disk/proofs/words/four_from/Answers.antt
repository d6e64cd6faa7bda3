-- `words::four_from` meets its contract.
use Prim.Native.Nat.{◌/◌, ◌%◌}
use mathlib.Core.Path.{◌≡◌}
use native.Mathlib.Omega.{arith}
use Rattle.word.specs.Little.{to_bytes}
use Rattle.disk.specs.Words.{four_from}
use Rattle.disk.proofs.words.four_from.Goals as goal

pub returns : goal.returns
unfolding four_from to_bytes
returns c =
    let w = c.args.word in
    let third : w / 65536 % 256 ≡ w / 256 / 256 % 256 = omega arith in
    let fourth : w / 16777216 % 256 ≡ w / 256 / 256 / 256 % 256 = omega arith in
    rw c.to_le_bytes.ensures (rw (third, fourth))
