-- `undo::back::ram_back` meets its contract, variant by variant.
use Rattle.std.proofs.Common.{◌+◌, ◌≤◌, length, ◌∙◌, arith, leb-true}
use Rattle.memory.proofs.Cells.{stored_sets}
use Rattle.undo.proofs.back.ram_back.Goals as goal

pub store_word-requires : goal.store_word-requires
store_word-requires c =
    let room : c.in-RamWord.place + 4 ≤ length c.args.ram.now = leb-true _ _ (rw c.in-RamWord.is at c.requires) in
    omega (arith, room)

pub returns-in-RamWord : goal.returns-in-RamWord
returns-in-RamWord c = let s = c.in-RamWord.is in
    rw s (c.store_word.ensures ∙ stored_sets 4 _ _ _ (leb-true _ _ (rw s at c.requires)))
