-- `piece::mark::counted` meets its contract.
use Rattle.piece.proofs.mark.counted.Goals as goal

pub returns-in-Ok : goal.returns-in-Ok
returns-in-Ok c = rw (c.in-Ok.is, c.goes_on.ensures)
