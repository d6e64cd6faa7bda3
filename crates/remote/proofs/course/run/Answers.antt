-- `remote::course::run` meets its contract.
use Rattle.std.proofs.Common.{◌≤◌, arith}
use Rattle.remote.proofs.Courses.{run_first, run_low, run_high, run_whole}
use Rattle.remote.proofs.course.run.Goals as goal

pub returns-then-n-eq0 : goal.returns-then-n-eq0
returns-then-n-eq0 c = run_first _ _ _ c.requires c.if-n-eq0.true

pub returns-in-32-to-126 : goal.returns-in-32-to-126
returns-in-32-to-126 c =
    let low : 32 ≤ c.args.b = omega arith in
    let high : c.args.b ≤ 126 = omega arith in
    rw (run_whole c.args.payload.now c.args.n c.args.b c.requires c.if-n-eq0.false low high, ← c.from.ensures) c.lay.ensures

pub returns-in_default : goal.returns-in_default
returns-in_default c = run_low _ _ _ c.requires (omega arith)

pub returns-in_default-2 : goal.returns-in_default-2
returns-in_default-2 c = run_high _ _ _ c.requires (omega arith)
