-- `rules::ranges_keep` meets its contract: the code's term is the definition's.
use mathlib.Core.Path.{refl}
use Rattle.rules.proofs.ranges_keep.Goals as goal

pub returns : goal.returns
returns c = refl
