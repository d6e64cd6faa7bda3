-- `intend::branch::compares` meets its contract: what its calls ensure, joined.
use Rattle.intend.proofs.branch.compares.Goals as goal

pub returns : goal.returns
returns c = rw (c.taken.ensures, c.compare-test.ensures, c.reg-2.ensures, c.reg.ensures)
