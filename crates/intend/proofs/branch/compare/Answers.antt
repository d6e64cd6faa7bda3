-- `intend::branch::compare` meets its contract: by cases.
use Rattle.intend.proofs.branch.compare.Goals as goal

pub returns-in-Beq : goal.returns-in-Beq
returns-in-Beq c = rw (c.in-Beq.is, c.eq.ensures)

pub returns-in-Bne : goal.returns-in-Bne
returns-in-Bne c = rw (c.in-Bne.is, c.ne.ensures)
