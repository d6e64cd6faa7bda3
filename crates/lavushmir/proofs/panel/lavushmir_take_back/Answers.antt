-- `lavushmir_take_back` meets its contract: the parts of the one equation.
use Rattle.lavushmir.proofs.Packed.{packed_is}
use Rattle.lavushmir.proofs.panel.lavushmir_take_back.Goals as goal

pub returns : goal.returns
returns c = packed_is c.take_back.ensures c.packed.ensures
