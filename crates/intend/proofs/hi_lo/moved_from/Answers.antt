-- `intend::hi_lo::moved_from` meets its contract: what its calls ensure, joined.
use Rattle.intend.proofs.hi_lo.moved_from.Goals as goal

pub returns : goal.returns
returns c = rw (c.half.ensures, c.kept.ensures)
