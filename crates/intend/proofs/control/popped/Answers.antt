-- `intend::control::popped` meets its contract: what `popped` of Status gives.
use Rattle.intend.proofs.control.popped.Goals as goal

pub returns : goal.returns
returns c = rw c.popped-after.ensures
