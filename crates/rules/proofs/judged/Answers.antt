-- `rules::judged` meets its contract: the machine is what `decode` ensures, and the answer what the two tests ensure.
use Rattle.rules.specs.Rules.{keeps_rules}
use Rattle.rules.proofs.judged.Goals as goal

pub returns : goal.returns
unfolding keeps_rules
returns c = cc
