-- `saved::undo_word` meets its contract.
use Rattle.disks.specs.Saved.{undo_word}
use Rattle.disks.proofs.saved.undo_word.Goals as goal

pub returns : goal.returns
unfolding undo_word
returns c = rw c.word_back.ensures
