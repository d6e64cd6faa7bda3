-- `intend::branch::jumps` meets its contract: by cases.
use Rattle.intend.proofs.branch.jumps.Goals as goal

pub returns-in-J : goal.returns-in-J
returns-in-J c = rw (c.in-J.is, c.jump-to.ensures)

pub returns-in-Jal : goal.returns-in-Jal
returns-in-Jal c = rw (c.in-Jal.is, c.link.ensures, c.jump-to.ensures)
