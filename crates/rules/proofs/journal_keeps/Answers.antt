-- `rules::journal_keeps` meets its contract: the code's term is the definition's.
use mathlib.Core.Path.{refl}
use Rattle.rules.proofs.journal_keeps.Goals as goal

pub returns : goal.returns
returns c = refl
