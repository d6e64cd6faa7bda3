-- What a turn is lent stays lent: the ROMs hold what they held, and each other buffer is the one that it was, and as long.
use Rattle.std.specs.Prelude.{◌≡◌, length}
use Rattle.image.specs.declared.lent.Lent.{Lent}
use Rattle.image.specs.declared.lent.Seen.{Seen}

pub record StaysLent (old new : Lent) : Type 0 where
  pub execution : new.execution.now ≡ old.execution.now
  pub bootstrap : new.bootstrap.now ≡ old.bootstrap.now
  pub image : length new.image.now ≡ length old.image.now
  pub ram : length new.ram.now ≡ length old.ram.now
  pub paper : length new.paper.now ≡ length old.paper.now
  pub journal : length new.journal.now ≡ length old.journal.now
  pub index : length new.index.now ≡ length old.index.now
  pub image_same : new.image.ghost_name ≡ old.image.ghost_name
  pub ram_same : new.ram.ghost_name ≡ old.ram.ghost_name
  pub paper_same : new.paper.ghost_name ≡ old.paper.ghost_name
  pub journal_same : new.journal.ghost_name ≡ old.journal.ghost_name
  pub index_same : new.index.ghost_name ≡ old.index.ghost_name

-- what is seen is what was lent
pub record IsSeen (lent : Lent) (seen : Seen) : Type 0 where
  pub image : seen.image.now ≡ lent.image.now
  pub execution : seen.execution.now ≡ lent.execution.now
  pub bootstrap : seen.bootstrap.now ≡ lent.bootstrap.now
  pub ram : seen.ram.now ≡ lent.ram.now
  pub paper : seen.paper.now ≡ lent.paper.now
  pub journal : seen.journal.now ≡ lent.journal.now
  pub index : seen.index.now ≡ lent.index.now
