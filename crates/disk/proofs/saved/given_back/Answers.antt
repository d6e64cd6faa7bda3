-- `saved::given_back` meets its contract.
use borrow.Author.Tests.{eq-eqb, ne_eqb}
use Rattle.disk.specs.Saved.{given_back}
use Rattle.disk.proofs.saved.given_back.Goals as goal

pub returns-then-k-eq0 : goal.returns-then-k-eq0
unfolding given_back
returns-then-k-eq0 c = rw (eq-eqb _ 0 c.if-k-eq0.true)

pub returns : goal.returns
unfolding given_back
returns c = rw (ne_eqb _ 0 c.if-k-eq0.false)
