-- `intend::hi_lo::with_half` meets its contract: by cases.
use Rattle.intend.proofs.hi_lo.with_half.Goals as goal

pub returns-in-Hi : goal.returns-in-Hi
returns-in-Hi c = rw c.in-Hi.is

pub returns-in-Lo : goal.returns-in-Lo
returns-in-Lo c = rw c.in-Lo.is
