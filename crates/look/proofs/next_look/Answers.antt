-- `look::next_look` meets its contract.
use borrow.Author.Rules.{rules}
use Rattle.look.proofs.next_look.Goals as goal

pub returns-then-doubled : goal.returns-then-doubled
returns-then-doubled c = rw (← c.doubled.ensures, c.if-doubled.true)

pub returns : goal.returns
returns c = rw (← c.doubled.ensures, c.if-doubled.false)
