-- `reach::plain::plain` meets its contract: the tests, one after the other.
use Rattle.std.proofs.Common.{not, sym, ap, ◌∙◌}
use Rattle.std.proofs.lemmas.Bool.{true≢false}
use Rattle.reach.specs.Plain.{plain_of}
use Rattle.reach.proofs.plain.plain.Goals.{then-not-has_bit, else-not-has_bit, then-aligned, else-aligned}
use Rattle.reach.proofs.plain.plain.Goals as goal

pub returns-then-va-ge-RAM : goal.returns-then-va-ge-RAM
unfolding plain_of
returns-then-va-ge-RAM c =
    elim c.if-aligned.branch [
      | then-aligned w ↦ elim c.if-not-has_bit.branch [
        | then-not-has_bit v ↦ rw (← c.has_bit.ensures, v.if-not-has_bit.true, ← v.aligned.ensures, ← v.value-is, w.if-aligned.true, ← w.value-is, c.if-va-ge-RAM.true)
        | else-not-has_bit v ↦ absurd (true≢false (sym w.if-aligned.true ∙ v.value-is ∙ ap not v.if-not-has_bit.false))
      ]
      | else-aligned w ↦ absurd (true≢false (sym c.if-va-ge-RAM.true ∙ w.value-is ∙ w.if-aligned.false))
    ]

pub returns-else-va-ge-RAM : goal.returns-else-va-ge-RAM
unfolding plain_of
returns-else-va-ge-RAM c =
    elim c.if-not-has_bit.branch [
      | then-not-has_bit v ↦ elim c.if-aligned.branch [
        | then-aligned w ↦ rw (← c.has_bit.ensures, v.if-not-has_bit.true, ← v.aligned.ensures, ← v.value-is, w.if-aligned.true, ← w.value-is, c.if-va-ge-RAM.false)
        | else-aligned w ↦ rw (← c.has_bit.ensures, v.if-not-has_bit.true, ← v.aligned.ensures, ← v.value-is, w.if-aligned.false, c.if-va-ge-RAM.false)
      ]
      | else-not-has_bit v ↦ rw (← c.has_bit.ensures, v.if-not-has_bit.false, c.if-va-ge-RAM.false)
    ]
