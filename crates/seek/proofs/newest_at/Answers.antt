-- `seek::newest_at` meets its contract.
use mathlib.Core.Path.{sym, ◌∙◌}
use Rattle.seek.proofs.OnHand.{fits}
use Rattle.seek.proofs.Guards.{unfit_newest, fit_newest}
use Rattle.seek.proofs.newest_at.Goals as goal

pub returns-then-not-fits : goal.returns-then-not-fits
returns-then-not-fits c = unfit_newest _ _ _ (sym c.fits.ensures ∙ c.if-not-fits.true) _

pub newest-requires : goal.newest-requires
newest-requires c = fits _ _ _ (sym c.fits.ensures ∙ c.if-not-fits.false)

pub returns : goal.returns
returns c = c.newest.ensures ∙ fit_newest _ _ _ (sym c.fits.ensures ∙ c.if-not-fits.false) _
