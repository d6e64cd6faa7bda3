-- `look::held_back` meets its contract: the core ahead, and what the step meets on it.
use borrow.Author.Rules.{rules}
use Rattle.look.proofs.held_back.Goals as goal

pub returns : goal.returns
returns c = rw (c.meets_two.ensures, c.ahead-next.ensures, c.core_in.ensures)
