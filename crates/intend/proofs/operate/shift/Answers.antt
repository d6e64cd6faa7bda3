-- `intend::operate::shift` meets its contract: what its calls ensure, joined.
use Rattle.intend.proofs.operate.shift.Goals as goal

pub returns : goal.returns
returns c = rw (c.shifted.ensures, c.reg.ensures)
