-- `board::places::mapped` meets its contract: what `spans` ensures of each area, in the definition's order.
use mathlib.Core.Path.{sym, ◌∙◌}
use Rattle.board.specs.Places.{mapped_of}
use Rattle.board.proofs.Areas.{starts}
use Rattle.board.proofs.places.mapped.Goals as goal

pub overflow_sub-result : goal.overflow_sub-result
overflow_sub-result c = starts _ _ _ (sym c.spans.ensures ∙ c.if-spans.true)

pub returns-then-spans : goal.returns-then-spans
unfolding mapped_of
returns-then-spans c = rw (← c.spans.ensures, c.if-spans.true)

pub returns-then-spans-2 : goal.returns-then-spans-2
unfolding mapped_of
returns-then-spans-2 c =
    rw (
      ← c.spans.ensures,
      c.if-spans.false,
      ← c.spans-2.ensures,
      c.if-spans-2.true,
    )

pub overflow_sub-result-then-spans-3 : goal.overflow_sub-result-then-spans-3
overflow_sub-result-then-spans-3 c = starts _ _ _ (sym c.spans-3.ensures ∙ c.if-spans-3.true)

pub returns-then-spans-3 : goal.returns-then-spans-3
unfolding mapped_of
returns-then-spans-3 c =
    rw (
      ← c.spans.ensures,
      c.if-spans.false,
      ← c.spans-2.ensures,
      c.if-spans-2.false,
      ← c.spans-3.ensures,
      c.if-spans-3.true,
    )

pub overflow_sub-result-then-spans-4 : goal.overflow_sub-result-then-spans-4
overflow_sub-result-then-spans-4 c = starts _ _ _ (sym c.spans-4.ensures ∙ c.if-spans-4.true)

pub returns-then-spans-4 : goal.returns-then-spans-4
unfolding mapped_of
returns-then-spans-4 c =
    rw (
      ← c.spans.ensures,
      c.if-spans.false,
      ← c.spans-2.ensures,
      c.if-spans-2.false,
      ← c.spans-3.ensures,
      c.if-spans-3.false,
      ← c.spans-4.ensures,
      c.if-spans-4.true,
    )

pub returns : goal.returns
unfolding mapped_of
returns c =
    rw (
      ← c.spans.ensures,
      c.if-spans.false,
      ← c.spans-2.ensures,
      c.if-spans-2.false,
      ← c.spans-3.ensures,
      c.if-spans-3.false,
      ← c.spans-4.ensures,
      c.if-spans-4.false,
    )
