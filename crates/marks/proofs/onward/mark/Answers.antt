-- `marks::onward::mark` meets its contract: only a store to RAM is marked.
use Rattle.marks.proofs.onward.mark.Goals as goal

pub mark_word-requires : goal.mark_word-requires
mark_word-requires c = record { fits_ram = c.requires.fits_ram; within = rw c.in-Ram.is at c.requires.within }

pub returns-in-Ram : goal.returns-in-Ram
returns-in-Ram c = rw c.in-Ram.is c.mark_word.ensures
