-- `remote::course::lay` meets its contract.
use mathlib.Core.Path.{refl}
use Rattle.std.proofs.Common.{arith}
use Rattle.std.proofs.lemmas.Grind.{common_steps}
use Rattle.remote.proofs.Rooms.{lay_whole, lay_none}
use Rattle.remote.proofs.course.lay.Goals as goal

pub returns-then-payload-n : goal.returns-then-payload-n
returns-then-payload-n c = lay_none _ _ _ _ c.requires c.if-payload-n.true

pub returns : goal.returns
returns c = lay_whole _ _ _ _ c.requires _ _ refl (omega arith) (grind (arith, common_steps)) (grind (arith, common_steps))
