-- `intend::branch::signs` meets its contract: what its calls ensure, joined.
use Rattle.intend.proofs.branch.signs.Goals as goal

pub returns : goal.returns
returns c = rw (c.link.ensures, c.link_register.ensures, c.taken-next.ensures, c.sign.ensures, c.reg.ensures)
