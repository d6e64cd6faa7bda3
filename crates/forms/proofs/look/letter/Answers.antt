-- `forms::look::letter` meets its contract.
use mathlib.Core.Path.{ap, sym, ◌∙◌}
use Rattle.piece.specs.declared.mark.Mark.{Mark}
use Rattle.forms.proofs.Letters.{letter_goes, letter_stands}
use Rattle.forms.proofs.look.letter.Goals as goal

pub returns-then-mark : goal.returns-then-mark
returns-then-mark g c =
    rw c.word-mark.ensures
    (letter_stands _ _ _ _ _ _ c.loop-b-test.true c.loop-b-item.is (sym (ap (λ (w : Mark). w.fits) c.word-mark.ensures) ∙ c.if-mark.true) ∙ c.loop-b.invariant)

pub loop-b-preserved : goal.loop-b-preserved
loop-b-preserved g c =
    letter_goes _ _ _ _ _ _ c.loop-b-test.true c.loop-b-item.is (sym (ap (λ (w : Mark). w.fits) c.word-mark.ensures) ∙ c.if-mark.false) ∙ c.loop-b.invariant
