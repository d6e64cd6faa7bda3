-- `convert::emptied` meets its contract.
use mathlib.Core.Path.{refl}
use Rattle.convert.proofs.emptied.Goals as goal

pub returns : goal.returns
returns c = refl
