-- `reach::meets_two` meets its contract: the tests, then the table.
use Rattle.reach.specs.Reach.{meets_two}
use Rattle.reach.proofs.meets_two.Goals as goal

pub returns-then-not-checked : goal.returns-then-not-checked
unfolding meets_two
returns-then-not-checked c = rw (← c.checked.ensures, c.if-not-checked.true)

pub returns : goal.returns
unfolding meets_two
returns c = rw (← c.checked.ensures, c.if-not-checked.false) c.twice.ensures
