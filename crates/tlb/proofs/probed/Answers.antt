-- `tlb::probed` meets its contract, by cases.
use Rattle.tlb.proofs.probed.Goals as goal

pub returns-in-Some : goal.returns-in-Some
returns-in-Some c = rw c.in-Some.is
