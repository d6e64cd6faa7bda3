-- `remote::reply::put_body` meets its contract.
use mathlib.Core.Path.{refl}
use Rattle.text.proofs.Laying.{laid_none}
use Rattle.remote.specs.Sum.{total_of}
use Rattle.remote.specs.Said.{body_of}
use Rattle.remote.proofs.Bodies.{body_more, sum_next}
use Rattle.remote.proofs.reply.put_body.Goals as goal

pub loop-b-init : goal.loop-b-init
unfolding body_of total_of
loop-b-init c = record { laid = laid_none _ _; sum = refl }

pub loop-b-preserved : goal.loop-b-preserved
loop-b-preserved c = record {
  laid = body_more _ _ c.loop-b-test.true c.loop-b.invariant.laid c.put_coded-next.ensures;
  sum = sum_next _ _ c.loop-b-test.true _ _ c.loop-b.invariant.sum c.added_coded-sum.ensures;
}
