-- `rules::machine_keeps` meets its contract, from what its two tests ensure.
use Rattle.rules.specs.Rules.{machine_keeps}
use Rattle.rules.proofs.machine_keeps.Goals as goal

pub returns : goal.returns
unfolding machine_keeps
returns c = cc
