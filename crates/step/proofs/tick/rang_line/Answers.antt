-- `step::tick::rang_line` meets its contract.
use Rattle.step.proofs.tick.rang_line.Goals as goal

pub returns-then-rang : goal.returns-then-rang
returns-then-rang c = rw c.if-rang.true c.with_line.ensures
