-- `seek::oldest` meets its contract. The invariant is `Remaining`: no record passed is at the PC.
use Rattle.seek.proofs.Loops.{remaining_start, remaining_more, remaining_stops, remaining_ends}
use Rattle.seek.proofs.oldest.Goals as goal

pub loop-k-init : goal.loop-k-init
loop-k-init c = remaining_start _ _ _ _

pub returns-then-pc_at-pc : goal.returns-then-pc_at-pc
returns-then-pc_at-pc c = remaining_stops _ _ _ c.loop-k.invariant c.loop-k-test.true c.pc_at.result c.pc_at.ensures c.if-pc_at-pc.true

pub loop-k-preserved : goal.loop-k-preserved
loop-k-preserved c = remaining_more _ _ _ c.loop-k.invariant c.loop-k-test.true c.pc_at.result c.pc_at.ensures c.if-pc_at-pc.false

pub returns : goal.returns
returns c = remaining_ends _ _ _ c.loop-k.invariant c.loop-k-test.false
