-- `undo::back::regs_back` meets its contract, variant by variant.
use Rattle.undo.proofs.Laws.{register_below}
use Rattle.undo.proofs.back.regs_back.Goals as goal

pub bounds-back-n : goal.bounds-back-n
bounds-back-n c = register_below _ (rw c.in-Register.is at c.requires)
