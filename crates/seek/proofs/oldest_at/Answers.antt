-- `seek::oldest_at` meets its contract.
use mathlib.Core.Path.{sym, ◌∙◌}
use Rattle.seek.proofs.OnHand.{fits}
use Rattle.seek.proofs.Guards.{unfit_oldest, fit_oldest}
use Rattle.seek.proofs.oldest_at.Goals as goal

pub returns-then-not-fits : goal.returns-then-not-fits
returns-then-not-fits c = unfit_oldest _ _ _ (sym c.fits.ensures ∙ c.if-not-fits.true) _

pub oldest-requires : goal.oldest-requires
oldest-requires c = fits _ _ _ (sym c.fits.ensures ∙ c.if-not-fits.false)

pub returns : goal.returns
returns c = c.oldest.ensures ∙ fit_oldest _ _ _ (sym c.fits.ensures ∙ c.if-not-fits.false) _
