-- `memory::store_word` meets its contract: two of half its width.
use Rattle.memory.proofs.Widths.{store_two}
use borrow.Author.Rules.{rules}
use Rattle.memory.proofs.store_word.Goals as goal

pub returns : goal.returns
returns c = store_two 2 _ _ (search rules) _ _ _ c.store_half.ensures c.store_half-2.ensures
