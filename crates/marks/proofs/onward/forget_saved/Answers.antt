-- `marks::onward::forget_saved` meets its contract: only a word of RAM has an entry.
use Rattle.marks.proofs.onward.forget_saved.Goals as goal

pub returns-in-RamWord : goal.returns-in-RamWord
returns-in-RamWord c = rw c.in-RamWord.is c.replace_any.ensures
