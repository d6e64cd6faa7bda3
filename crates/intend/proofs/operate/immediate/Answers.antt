-- `intend::operate::immediate` meets its contract: what its calls ensure, joined.
use Rattle.intend.proofs.operate.immediate.Goals as goal

pub returns : goal.returns
returns c = rw (c.summed.ensures, c.by_immediate.ensures, c.reg.ensures)
