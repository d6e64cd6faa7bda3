-- `undo::fit::checked` meets its contract, test by test.
use Rattle.std.proofs.Common.{sym, ◌∙◌}
use Rattle.record.proofs.RoundTrip.{kept_saved}
use Rattle.undo.proofs.Checked.{not_laid_out, fits, fits_not}
use Rattle.undo.proofs.fit.checked.Goals as goal

pub returns-then-not-keeps_layout : goal.returns-then-not-keeps_layout
returns-then-not-keeps_layout c = not_laid_out _ _ _ _ (sym c.keeps_layout.ensures ∙ c.if-not-keeps_layout.true)

pub machine_back-before-requires : goal.machine_back-before-requires
machine_back-before-requires c =
    rw c.decode-r.ensures (kept_saved _ (sym c.keeps_layout.ensures ∙ c.if-not-keeps_layout.false))

pub returns-then-fits : goal.returns-then-fits
returns-then-fits c =
    fits _ _ _ _ _ _ _ _ _ (sym c.keeps_layout.ensures ∙ c.if-not-keeps_layout.false) c.decode-r.ensures
    c.machine_back-before.ensures c.ram_place_fits.ensures c.paper_places_fit.ensures c.state_keeps.ensures c.if-fits.true

pub returns-else-fits : goal.returns-else-fits
returns-else-fits c =
    fits_not _ _ _ _ _ _ _ _ _ (sym c.keeps_layout.ensures ∙ c.if-not-keeps_layout.false) c.decode-r.ensures
    c.machine_back-before.ensures c.ram_place_fits.ensures c.paper_places_fit.ensures c.state_keeps.ensures c.if-fits.false
