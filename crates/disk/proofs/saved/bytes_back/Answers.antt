-- `saved::bytes_back` meets its contract: what lies outside is passed over.
use Rattle.disk.specs.Saved.{bytes_back}
use Rattle.disk.proofs.saved.bytes_back.Goals as goal

pub returns-then-k-at : goal.returns-then-k-at
unfolding bytes_back
returns-then-k-at c = rw (← c.block_of-block.ensures.place_is, ← c.saturating_sub.ensures, c.if-k-at.true) c.put_four.ensures

pub returns-else-k-at : goal.returns-else-k-at
unfolding bytes_back
returns-else-k-at c = rw (← c.block_of-block.ensures.place_is, ← c.saturating_sub.ensures, c.if-k-at.false)
