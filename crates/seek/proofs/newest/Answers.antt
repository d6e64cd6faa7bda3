-- `seek::newest` meets its contract. The invariant is `Passed`: no record passed is at the PC.
use Rattle.seek.proofs.Loops.{passed_start, passed_more, passed_stops, passed_ends}
use Rattle.seek.proofs.newest.Goals as goal

pub loop-k-init : goal.loop-k-init
loop-k-init c = passed_start _ _ _ _

pub returns-then-pc_at-pc : goal.returns-then-pc_at-pc
returns-then-pc_at-pc c = passed_stops _ _ _ c.loop-k.invariant c.loop-k-test.true c.pc_at.result c.pc_at.ensures c.if-pc_at-pc.true

pub loop-k-preserved : goal.loop-k-preserved
loop-k-preserved c = passed_more _ _ _ c.loop-k.invariant c.loop-k-test.true c.pc_at.result c.pc_at.ensures c.if-pc_at-pc.false

pub returns : goal.returns
returns c = passed_ends _ _ _ c.loop-k.invariant c.loop-k-test.false
