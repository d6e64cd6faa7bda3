-- `intend::hi_lo::multiplied` meets its contract: by cases.
use Rattle.intend.proofs.hi_lo.multiplied.Goals as goal

pub returns-in-Mult : goal.returns-in-Mult
returns-in-Mult c = rw (c.in-Mult.is, c.mult.ensures)

pub returns-in-Multu : goal.returns-in-Multu
returns-in-Multu c = rw (c.in-Multu.is, c.multu.ensures)

pub returns-in-Div : goal.returns-in-Div
returns-in-Div c = rw (c.in-Div.is, c.div.ensures)

pub returns-in-Divu : goal.returns-in-Divu
returns-in-Divu c = rw (c.in-Divu.is, c.divu.ensures)
