-- `remote::course::turn` meets its contract.
use Rattle.remote.proofs.course.turn.Goals as goal

pub returns-in-Escape : goal.returns-in-Escape
returns-in-Escape c = rw c.in-Escape.is c.lay.ensures
