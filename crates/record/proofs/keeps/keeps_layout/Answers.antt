-- `record::keeps::keeps_layout` meets its contract, test by test.
use Rattle.record.specs.Keeps.{keeps_layout}
use Rattle.record.proofs.keeps.keeps_layout.Goals as goal

pub returns : goal.returns
unfolding keeps_layout
returns c = cc
