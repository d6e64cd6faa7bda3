-- `intend::operate::register` meets its contract: what its calls ensure, joined.
use Rattle.intend.proofs.operate.register.Goals as goal

pub returns : goal.returns
returns c = rw (c.summed.ensures, c.by_register.ensures, c.reg-2.ensures, c.reg.ensures)
