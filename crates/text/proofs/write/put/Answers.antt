-- `text::write::put` meets its contract.
use Rattle.text.proofs.Laying.{laid_more}
use Rattle.text.proofs.write.put.Goals as goal

pub loop-b-preserved : goal.loop-b-preserved
loop-b-preserved c = laid_more _ _ c.loop-b-test.true c.loop-b.invariant c.put_byte-next.ensures
