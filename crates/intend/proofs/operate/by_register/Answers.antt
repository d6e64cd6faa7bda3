-- `intend::operate::by_register` meets its contract: by cases.
use Rattle.intend.proofs.operate.by_register.Goals as goal

pub returns-in-Add : goal.returns-in-Add
returns-in-Add c = rw (c.in-Add.is, c.add.ensures)

pub returns-in-Addu : goal.returns-in-Addu
returns-in-Addu c = rw (c.in-Addu.is, c.addu.ensures)

pub returns-in-Sub : goal.returns-in-Sub
returns-in-Sub c = rw (c.in-Sub.is, c.sub.ensures)

pub returns-in-Subu : goal.returns-in-Subu
returns-in-Subu c = rw (c.in-Subu.is, c.subu.ensures)

pub returns-in-And : goal.returns-in-And
returns-in-And c = rw (c.in-And.is, c.and.ensures)

pub returns-in-Or : goal.returns-in-Or
returns-in-Or c = rw (c.in-Or.is, c.or.ensures)

pub returns-in-Xor : goal.returns-in-Xor
returns-in-Xor c = rw (c.in-Xor.is, c.xor.ensures)

pub returns-in-Nor : goal.returns-in-Nor
returns-in-Nor c = rw (c.in-Nor.is, c.nor.ensures)

pub returns-in-Slt : goal.returns-in-Slt
returns-in-Slt c = rw (c.in-Slt.is, c.slt.ensures)

pub returns-in-Sltu : goal.returns-in-Sltu
returns-in-Sltu c = rw (c.in-Sltu.is, c.sltu.ensures)
