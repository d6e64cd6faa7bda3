-- `intend::branch::sign` meets its contract: by cases.
use Rattle.intend.proofs.branch.sign.Goals as goal

pub returns-in-Bltz : goal.returns-in-Bltz
returns-in-Bltz c = rw (c.in-Bltz.is, c.ltz.ensures)

pub returns-in-Bgez : goal.returns-in-Bgez
returns-in-Bgez c = rw (c.in-Bgez.is, c.gez.ensures)

pub returns-in-Bltzal : goal.returns-in-Bltzal
returns-in-Bltzal c = rw (c.in-Bltzal.is, c.ltz-in-Bltzal.ensures)

pub returns-in-Bgezal : goal.returns-in-Bgezal
returns-in-Bgezal c = rw (c.in-Bgezal.is, c.gez-in-Bgezal.ensures)

pub returns-in-Blez : goal.returns-in-Blez
returns-in-Blez c = rw (c.in-Blez.is, c.lez.ensures)

pub returns-in-Bgtz : goal.returns-in-Bgtz
returns-in-Bgtz c = rw (c.in-Bgtz.is, c.gtz.ensures)
