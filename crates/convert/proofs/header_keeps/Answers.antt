-- `convert::header_keeps` meets its contract, from what `word_at` ensures.
use Rattle.convert.proofs.header_keeps.Goals as goal

pub returns : goal.returns
returns c = rw c.word_at.ensures
