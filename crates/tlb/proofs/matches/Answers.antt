-- `tlb::matches` meets its contract: each way out has the tests that led there.
use borrow.Author.Tests.{eq-eqb, ne_eqb}
use Rattle.tlb.specs.Entry.{matches_of}
use Rattle.tlb.proofs.matches.Goals as goal

pub returns-then-row-sought-2 : goal.returns-then-row-sought-2
unfolding matches_of
returns-then-row-sought-2 c = simp (eq-eqb _ _ c.if-row-sought.true, eq-eqb _ _ c.if-row-sought-2.true)

pub returns-else-row-sought-2 : goal.returns-else-row-sought-2
unfolding matches_of
returns-else-row-sought-2 c = rw (eq-eqb _ _ c.if-row-sought.true, ne_eqb _ _ c.if-row-sought-2.false)

pub returns-else-row-sought : goal.returns-else-row-sought
unfolding matches_of
returns-else-row-sought c = simp (ne_eqb _ _ c.if-row-sought.false)
