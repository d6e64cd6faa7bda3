-- `words::kept_from` meets its contract.
use Rattle.disk.specs.Words.{kept_from}
use Rattle.disk.proofs.words.kept_from.Goals as goal

pub returns : goal.returns
unfolding kept_from
returns c = rw c.four_from.ensures
