-- `seek::changed` meets its contract. The invariant is `Scanned`: the records passed left the word as it is.
use Rattle.seek.proofs.Loops.{scanned_start, scanned_more, scanned_stops, scanned_ends}
use Rattle.seek.proofs.changed.Goals as goal

pub loop-k-init : goal.loop-k-init
loop-k-init c = scanned_start _ _ _ _ _

pub returns-then-old-present : goal.returns-then-old-present
returns-then-old-present c =
    let old = c.word_before-old in
    scanned_stops _ _ _ c.loop-k.invariant c.loop-k-test.true _ c.record_at.ensures.0 old.result old.ensures c.if-old-present.true

pub loop-k-preserved : goal.loop-k-preserved
loop-k-preserved c =
    let old = c.word_before-old in
    scanned_more _ _ _ c.loop-k.invariant c.loop-k-test.true _ c.record_at.ensures.0 old.result old.ensures c.if-old-present.false

pub returns : goal.returns
returns c = scanned_ends _ _ _ c.loop-k.invariant c.loop-k-test.false
