-- `memory::load_half` meets its contract.
use Rattle.std.proofs.Common.{◌≡◌, ◌+◌, arith}
use Rattle.memory.proofs.Widths.{load_none, load_next}
use Rattle.memory.proofs.load_half.Goals as goal

pub returns : goal.returns
returns c =
    let m = c.args.m.now in
    let at = c.args.at in
    let second : at + 1 + 1 ≡ at + 2 = omega arith in
    let two = rw (load_next 0 m (at + 1) (omega arith), load_none m (at + 1 + 1)) at (load_next 1 m at (omega arith)) in
    omega (arith, c.from_le_bytes.ensures, two)
