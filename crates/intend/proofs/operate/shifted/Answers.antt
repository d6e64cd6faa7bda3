-- `intend::operate::shifted` meets its contract: by cases.
use Rattle.intend.proofs.operate.shifted.Goals as goal

pub returns-in-Sll : goal.returns-in-Sll
returns-in-Sll c = rw (c.in-Sll.is, c.sll.ensures)

pub returns-in-Srl : goal.returns-in-Srl
returns-in-Srl c = rw (c.in-Srl.is, c.srl.ensures)

pub returns-in-Sra : goal.returns-in-Sra
returns-in-Sra c = rw (c.in-Sra.is, c.sra.ensures)
