-- `remote::sum::sum` meets its contract.
use mathlib.Core.Path.{refl, ◌∙◌}
use Rattle.remote.specs.Sum.{total_of}
use Rattle.remote.proofs.Sums.{sum_more}
use Rattle.remote.proofs.sum.sum.Goals as goal

pub loop-b-init : goal.loop-b-init
unfolding total_of
loop-b-init c = refl

pub loop-b-preserved : goal.loop-b-preserved
loop-b-preserved c = c.added-total.ensures ∙ sum_more _ _ _ c.loop-b-test.true c.loop-b.invariant
