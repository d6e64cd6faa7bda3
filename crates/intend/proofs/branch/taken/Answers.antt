-- `intend::branch::taken` meets its contract: by the test.
use Rattle.intend.proofs.branch.taken.Goals as goal

pub returns-then-test : goal.returns-then-test
returns-then-test c = rw (c.if-test.true, c.branch-core.ensures)

pub returns : goal.returns
returns c = rw (c.if-test.false, c.after.ensures)
