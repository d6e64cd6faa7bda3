-- `tlb::doubled::clash` meets its contract: each way out has the tests that led there.
use mathlib.Core.Path.{sym, ◌∙◌}
use borrow.Author.Tests.{le-leb, lt-leb}
use Rattle.tlb.specs.Doubled.{clash_of}
use Rattle.tlb.proofs.doubled.clash.Goals as goal

pub returns-then-matches : goal.returns-then-matches
unfolding clash_of
returns-then-matches c = rw (le-leb _ _ c.if-a-ge536870912.true, sym c.matches.ensures ∙ c.if-matches.true)
    c.if-matches.true

pub returns-else-matches : goal.returns-else-matches
unfolding clash_of
returns-else-matches c =
    rw (le-leb _ _ c.if-a-ge536870912.true, sym c.matches.ensures ∙ c.if-matches.false)
    c.matches-else-matches.ensures

pub returns-else-a-ge536870912 : goal.returns-else-a-ge536870912
unfolding clash_of
returns-else-a-ge536870912 c = simp (lt-leb _ _ c.if-a-ge536870912.false)
