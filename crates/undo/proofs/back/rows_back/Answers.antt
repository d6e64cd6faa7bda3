-- `undo::back::rows_back` meets its contract, variant by variant.
use Rattle.std.proofs.Common.{ltb-true}
use Rattle.undo.proofs.back.rows_back.Goals as goal

pub bounds-back-i : goal.bounds-back-i
bounds-back-i c = ltb-true _ _ (rw c.in-TlbRow.is at c.requires)
