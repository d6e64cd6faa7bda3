-- `lavushmir_run` meets its contract: the parts of the one equation.
use Rattle.lavushmir.proofs.Packed.{packed_is}
use Rattle.lavushmir.proofs.panel.lavushmir_run.Goals as goal

pub returns : goal.returns
returns c = packed_is c.run.ensures c.packed.ensures
