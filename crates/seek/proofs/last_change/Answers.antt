-- `seek::last_change` meets its contract.
use mathlib.Core.Path.{sym, ◌∙◌}
use Rattle.seek.proofs.OnHand.{fits}
use Rattle.seek.proofs.Guards.{has_room, no_word, unfit_change, fit_change}
use Rattle.seek.proofs.last_change.Goals as goal

pub returns-then-not-has_word : goal.returns-then-not-has_word
returns-then-not-has_word c = no_word _ _ _ _ _ (sym c.has_word.ensures ∙ c.if-not-has_word.true)

pub returns-then-not-fits : goal.returns-then-not-fits
returns-then-not-fits c = unfit_change _ _ _ (sym c.fits.ensures ∙ c.if-not-fits.true) _ _

pub load_word-present-requires : goal.load_word-present-requires
load_word-present-requires c =
    let ram = c.args.ram.now in
    has_room ram _ (sym c.has_word.ensures ∙ c.if-not-has_word.false)

pub changed-requires : goal.changed-requires
changed-requires c = fits _ _ _ (sym c.fits.ensures ∙ c.if-not-fits.false)

pub returns : goal.returns
returns c =
    c.changed.ensures
    ∙ fit_change _ _ _ (sym c.fits.ensures ∙ c.if-not-fits.false) _ _
    (sym c.has_word.ensures ∙ c.if-not-has_word.false)
    _ c.load_word-present.ensures
