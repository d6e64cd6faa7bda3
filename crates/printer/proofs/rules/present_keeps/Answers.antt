-- `rules::present_keeps` meets its contract.
use Rattle.printer.specs.Rules.{present_keeps}
use Rattle.printer.proofs.rules.present_keeps.Goals as goal

pub returns : goal.returns
unfolding present_keeps
returns c = rw c.work_keeps.ensures
