-- `intend::operate::shift_by` meets its contract: what its calls ensure, joined.
use Rattle.intend.proofs.operate.shift_by.Goals as goal

pub returns : goal.returns
returns c = rw (c.shifted.ensures, c.reg-2.ensures, c.reg.ensures)
