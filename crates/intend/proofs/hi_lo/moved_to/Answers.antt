-- `intend::hi_lo::moved_to` meets its contract: what its calls ensure, joined.
use Rattle.intend.proofs.hi_lo.moved_to.Goals as goal

pub returns : goal.returns
returns c = rw (c.both.ensures, c.with_half.ensures, c.kept.ensures, c.reg.ensures)
