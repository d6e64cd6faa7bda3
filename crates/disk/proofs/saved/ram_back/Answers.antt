-- `saved::ram_back` meets its contract: what lies outside is passed over.
use Rattle.disk.specs.Saved.{ram_back}
use Rattle.disk.proofs.saved.ram_back.Goals as goal

pub returns-then-k-at : goal.returns-then-k-at
unfolding ram_back
returns-then-k-at c = rw c.if-k-at.true c.put_four.ensures

pub returns-else-k-at : goal.returns-else-k-at
unfolding ram_back
returns-else-k-at c = rw c.if-k-at.false
