-- `memory::load_word` meets its contract.
use Rattle.std.proofs.Common.{◌≡◌, ◌+◌, arith}
use Rattle.memory.proofs.Widths.{load_none, load_next}
use Rattle.memory.proofs.load_word.Goals as goal

pub returns : goal.returns
returns c =
    let m = c.args.m.now in
    let at = c.args.at in
    let third : at + 1 + 1 ≡ at + 2 = omega arith in
    let last : at + 2 + 1 ≡ at + 3 = omega arith in
    let four =
    rw (load_next 2 m (at + 1) (omega arith), third, load_next 1 m (at + 2) (omega arith), last, load_next 0 m (at + 3) (omega arith), load_none m (at + 3 + 1))
    at (load_next 3 m at (omega arith)) in
    omega (arith, c.from_le_bytes.ensures, four)
