-- `memory::load_byte` meets its contract.
use Rattle.std.proofs.Common.{◌+◌, arith}
use Rattle.memory.proofs.Widths.{load_none, load_next}
use Rattle.memory.proofs.load_byte.Goals as goal

pub returns : goal.returns
returns c =
    let m = c.args.m.now in
    let at = c.args.at in
    omega (arith, load_next 0 m at (omega arith), load_none m (at + 1))
