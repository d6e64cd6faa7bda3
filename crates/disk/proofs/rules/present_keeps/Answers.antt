-- `rules::present_keeps` meets its contract.
use Rattle.disk.specs.Rules.{present_keeps}
use Rattle.disk.proofs.rules.present_keeps.Goals as goal

pub returns : goal.returns
unfolding present_keeps
returns c = cc
