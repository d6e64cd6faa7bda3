-- `alu::merge::swl` meets its contract.
use Rattle.std.proofs.Common.{◌≡◌, ◌+◌, ◌-◌, ◌%◌, ◌∙◌, arith}
use Rattle.alu.proofs.merge.swl.Goals as goal

pub returns : goal.returns
returns c =
    let p = c.args.place % 4 in
    let from : (3 - p) % 4 ≡ 3 - p = omega arith in
    let count : 4 - (3 - p) ≡ p + 1 = omega arith in
    c.lwr.ensures ∙ rw (from, count)
