-- `step::tick::printed` meets its contract: where none works nothing is done, where none ends they wait, and else each has its tick.
use native.Mathlib.Omega.{arith}
use Rattle.held.proofs.Soon.{goes_on}
use Rattle.step.proofs.Held.{printed_idle, printed_waits, printed_busy}
use Rattle.step.proofs.tick.printed.Goals as goal

pub returns-then-soon-eq0 : goal.returns-then-soon-eq0
returns-then-soon-eq0 c =
    let a = c.args in
    printed_idle a.words.now a.pending a.paper.now a.soon c.requires.waits.0 c.requires.waits.1 c.if-soon-eq0.true

pub wait-requires : goal.wait-requires
wait-requires c = (c.requires.waits.1, goes_on c.args.soon c.args.words.now c.if-soon-gt1.true c.requires.waits.0)

pub overflow_sub-result : goal.overflow_sub-result
overflow_sub-result c = omega (arith, c.if-soon-gt1.true)

pub returns-then-soon-gt1 : goal.returns-then-soon-gt1
returns-then-soon-gt1 c =
    let a = c.args in
    printed_waits a.words.now a.pending a.paper.now a.soon c.if-soon-gt1.true c.requires.waits.0 c.wait.ensures

pub tick-map-requires : goal.tick-map-requires
tick-map-requires c = (c.requires.waits.1, c.requires.paper_len_bound)

pub returns : goal.returns
returns c =
    let a = c.args in
    printed_busy a.words.now a.pending a.paper.now c.tick-map.ensures c.soon_in.ensures
