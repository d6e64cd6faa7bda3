-- `held::line::soon_in` meets its contract. The invariant: `soon` is true of the printers passed.
use Rattle.std.specs.Prelude.{◌≡◌}
use native.Mathlib.Omega.{arith}
use Rattle.held.proofs.Soon.{waits_to}
use Rattle.held.proofs.line.soon_in.Goals as goal

pub loop-n-init : goal.loop-n-init
loop-n-init c = (omega arith, λ n few. absurd (omega (arith, few)))

pub loop-n-preserved : goal.loop-n-preserved
loop-n-preserved c =
    let l = c.loop-n in
    let a = c.args in
    (omega arith, waits_to l.n l.soon a.words.now c.least-soon.ensures l.invariant.1)

pub returns : goal.returns
returns c =
    let l = c.loop-n in
    let all : l.n ≡ 8 = omega arith in
    rw all at l.invariant.1
