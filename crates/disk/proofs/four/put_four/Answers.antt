-- `four::put_four` meets its contract: four stores, one after the other.
use Prim.Native.Nat.{suc, ◌+◌}
use mathlib.Core.Path.{◌≡◌}
use native.Mathlib.Omega.{arith}
use Rattle.disk.specs.Four.{put_four}
use Rattle.disk.proofs.four.put_four.Goals as goal

pub returns : goal.returns
unfolding put_four
returns c = let at = c.args.at in
    let one : at + 1 ≡ suc at = omega arith in
    let two : at + 2 ≡ suc (suc at) = omega arith in
    let three : at + 3 ≡ suc (suc (suc at)) = omega arith in
    rw (one, two, three)
