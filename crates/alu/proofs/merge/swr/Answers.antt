-- `alu::merge::swr` meets its contract.
use Rattle.std.proofs.Common.{◌≡◌, ◌+◌, ◌-◌, ◌%◌, ◌∙◌, arith}
use Rattle.alu.proofs.merge.swr.Goals as goal

pub returns : goal.returns
returns c =
    let p = c.args.place % 4 in
    let from : (3 - p) % 4 ≡ 3 - p = omega arith in
    let kept : 3 - (3 - p) ≡ p = omega arith in
    let given : 3 - p + 1 ≡ 4 - p = omega arith in
    c.lwl.ensures ∙ rw (from, kept, given)
