-- `intend::hi_lo::product` meets its contract: what its calls ensure, joined.
use Rattle.intend.proofs.hi_lo.product.Goals as goal

pub returns : goal.returns
returns c = rw (c.both.ensures, c.multiplied.ensures, c.kept.ensures, c.reg-2.ensures, c.reg.ensures)
