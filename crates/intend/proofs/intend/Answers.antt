-- `intend::intend` meets its contract: by cases.
use Rattle.intend.specs.Intend.{intend_of}
use Rattle.intend.proofs.intend.Goals as goal

pub returns-in-Reserved : goal.returns-in-Reserved
unfolding intend_of
returns-in-Reserved c = rw c.in-Reserved.is

pub returns-in-Unusable : goal.returns-in-Unusable
unfolding intend_of
returns-in-Unusable c = rw c.in-Unusable.is

pub returns-in-Syscall : goal.returns-in-Syscall
unfolding intend_of
returns-in-Syscall c = rw c.in-Syscall.is

pub returns-in-Break : goal.returns-in-Break
unfolding intend_of
returns-in-Break c = rw c.in-Break.is

pub returns-in-Shift : goal.returns-in-Shift
unfolding intend_of
returns-in-Shift c = rw (c.in-Shift.is, c.shift.ensures)

pub returns-in-ShiftBy : goal.returns-in-ShiftBy
unfolding intend_of
returns-in-ShiftBy c = rw (c.in-ShiftBy.is, c.shift_by.ensures)

pub returns-in-Register : goal.returns-in-Register
unfolding intend_of
returns-in-Register c = rw (c.in-Register.is, c.register.ensures)

pub returns-in-Product : goal.returns-in-Product
unfolding intend_of
returns-in-Product c = rw (c.in-Product.is, c.product.ensures)

pub returns-in-MoveFrom : goal.returns-in-MoveFrom
unfolding intend_of
returns-in-MoveFrom c = rw (c.in-MoveFrom.is, c.moved_from.ensures)

pub returns-in-MoveTo : goal.returns-in-MoveTo
unfolding intend_of
returns-in-MoveTo c = rw (c.in-MoveTo.is, c.moved_to.ensures)

pub returns-in-JumpRegister : goal.returns-in-JumpRegister
unfolding intend_of
returns-in-JumpRegister c = rw (c.in-JumpRegister.is, c.reg.ensures)

pub returns-in-JumpLinkRegister : goal.returns-in-JumpLinkRegister
unfolding intend_of
returns-in-JumpLinkRegister c = rw (c.in-JumpLinkRegister.is, c.jump_link.ensures)

pub returns-in-Jump : goal.returns-in-Jump
unfolding intend_of
returns-in-Jump c = rw (c.in-Jump.is, c.jumps.ensures)

pub returns-in-Compare : goal.returns-in-Compare
unfolding intend_of
returns-in-Compare c = rw (c.in-Compare.is, c.compares.ensures)

pub returns-in-Sign : goal.returns-in-Sign
unfolding intend_of
returns-in-Sign c = rw (c.in-Sign.is, c.signs.ensures)

pub returns-in-Immediate : goal.returns-in-Immediate
unfolding intend_of
returns-in-Immediate c = rw (c.in-Immediate.is, c.immediate.ensures)

pub returns-in-LoadUpper : goal.returns-in-LoadUpper
unfolding intend_of
returns-in-LoadUpper c = rw (c.in-LoadUpper.is, c.lui.ensures)

pub returns-in-Load : goal.returns-in-Load
unfolding intend_of
returns-in-Load c = rw (c.in-Load.is, c.load.ensures)

pub returns-in-Store : goal.returns-in-Store
unfolding intend_of
returns-in-Store c = rw (c.in-Store.is, c.store.ensures)

pub returns-in-Control : goal.returns-in-Control
unfolding intend_of
returns-in-Control c = rw (c.in-Control.is, c.control.ensures)
