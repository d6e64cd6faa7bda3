-- `rules::state_keeps` meets its contract, test by test.
use Rattle.rules.specs.Rules.{state_keeps}
use Rattle.rules.proofs.state_keeps.Goals as goal

pub returns : goal.returns
unfolding state_keeps
returns c = cc
