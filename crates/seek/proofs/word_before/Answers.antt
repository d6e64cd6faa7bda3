-- `seek::word_before` meets its contract, from the words that it reads.
use mathlib.Core.Path.{sym, ◌∙◌}
use Rattle.seek.proofs.Words.{other_kind, other_place, same_place}
use Rattle.seek.proofs.word_before.Goals as goal

pub returns-then-word-ne-RAM : goal.returns-then-word-ne-RAM
returns-then-word-ne-RAM c = sym (other_kind _ _ _ (λ e. c.if-word-ne-RAM.true (c.word.ensures ∙ e)))

pub returns-then-word-place : goal.returns-then-word-place
returns-then-word-place c =
    let kind = c.word.ensures in
    sym (other_place _ _ _ (sym kind ∙ c.if-word-ne-RAM.false) (λ e. c.if-word-place.true (c.word-2.ensures ∙ e)))

pub returns : goal.returns
returns c =
    let kind = c.word.ensures in
    let at = c.word-2.ensures in
    c.word-3.ensures ∙ sym (same_place _ _ _ (sym kind ∙ c.if-word-ne-RAM.false) (sym at ∙ c.if-word-place.false))
