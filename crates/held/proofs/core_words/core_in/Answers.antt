-- `held::core_words::core_in` meets its contract: the words in the order of the definition.
use mathlib.Core.Path.{refl}
use Rattle.held.specs.Core.{core_in}
use Rattle.held.proofs.core_words.core_in.Goals as goal

pub returns : goal.returns
unfolding core_in
returns c = refl
