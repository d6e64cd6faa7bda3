-- `pages::is_near` meets its contract: the key, then VMc, then the alignment.
use Rattle.std.proofs.Common.{sym, ◌∙◌}
use Rattle.std.proofs.lemmas.Bool.{true≢false}
use borrow.Author.Tests.{ne_eqb, eq-eqb}
use Rattle.pages.specs.Pages.{is_near}
use Rattle.pages.proofs.is_near.Goals.{then-known-key, else-known-key}
use Rattle.pages.proofs.is_near.Goals as goal

pub returns-then-has_bit : goal.returns-then-has_bit
unfolding is_near
returns-then-has_bit c =
    elim c.if-known-key.branch [
      | then-known-key w ↦ rw (← c.key.ensures, eq-eqb _ _ w.if-known-key.true, ← w.has_bit.ensures, ← w.value-is, c.if-has_bit.true) c.aligned.ensures
      | else-known-key w ↦ absurd (true≢false (sym c.if-has_bit.true ∙ w.value-is ∙ ne_eqb _ _ w.if-known-key.false))
    ]

pub returns-else-has_bit : goal.returns-else-has_bit
unfolding is_near
returns-else-has_bit c =
    elim c.if-known-key.branch [
      | then-known-key w ↦ rw (← c.key.ensures, eq-eqb _ _ w.if-known-key.true, ← w.has_bit.ensures, ← w.value-is, c.if-has_bit.false)
      | else-known-key w ↦ rw (← c.key.ensures, ne_eqb _ _ w.if-known-key.false, c.if-has_bit.false)
    ]
