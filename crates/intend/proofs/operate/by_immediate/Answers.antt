-- `intend::operate::by_immediate` meets its contract: by cases.
use Rattle.intend.proofs.operate.by_immediate.Goals as goal

pub returns-in-Addi : goal.returns-in-Addi
returns-in-Addi c = rw (c.in-Addi.is, c.addi.ensures)

pub returns-in-Addiu : goal.returns-in-Addiu
returns-in-Addiu c = rw (c.in-Addiu.is, c.addiu.ensures)

pub returns-in-Slti : goal.returns-in-Slti
returns-in-Slti c = rw (c.in-Slti.is, c.slti.ensures)

pub returns-in-Sltiu : goal.returns-in-Sltiu
returns-in-Sltiu c = rw (c.in-Sltiu.is, c.sltiu.ensures)

pub returns-in-Andi : goal.returns-in-Andi
returns-in-Andi c = rw (c.in-Andi.is, c.andi.ensures)

pub returns-in-Ori : goal.returns-in-Ori
returns-in-Ori c = rw (c.in-Ori.is, c.ori.ensures)

pub returns-in-Xori : goal.returns-in-Xori
returns-in-Xori c = rw (c.in-Xori.is, c.xori.ensures)
