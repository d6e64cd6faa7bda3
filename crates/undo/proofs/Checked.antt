-- What `checked` answers, from the tests that it makes one by one.
use Rattle.std.proofs.Common.{◌≡◌, ℕ, Bool, true, false, ◌&&◌, List, sym, ap, ◌∙◌}
use Rattle.std.specs.Prelude.{None, Some}
use Rattle.std.specs.Bool.{then_some}
use Rattle.state.specs.declared.machine.Machine.{Machine}
use Rattle.rules.specs.Rules.{state_keeps}
use Rattle.record.specs.declared.Record.{Record}
use Rattle.record.specs.Layout.{record_of}
use Rattle.record.specs.Keeps.{keeps_layout}
use Rattle.undo.specs.Undo.{machine_back}
use Rattle.undo.specs.Fit.{ram_place_fits, paper_places_fit, fit_of, checked_of}

module _ (slot : List ℕ) (m : Machine) (ram paper : ℕ) where
  pub not_laid_out : keeps_layout slot ≡ false → None ≡ checked_of slot m ram paper
  unfolding fit_of
  not_laid_out e = rw e

  -- The rules without the journal's do not look at the journal's two words, so it is the same which they are.
  pub laid_out : (r : Record) (b : Machine) (x y z : Bool) → keeps_layout slot ≡ true → r ≡ record_of slot → b ≡ machine_back r m →
      x ≡ ram_place_fits r.saved ram → y ≡ paper_places_fit r.paper.mask r.printers paper → z ≡ state_keeps b paper →
      then_some (x && y && z) b ≡ checked_of slot m ram paper
  unfolding fit_of state_keeps
  laid_out r b x y z keeps er eb ex ey ez = rw (ex, ey, ez, eb, er, keeps)

  -- the same by the two ways on from the tests
  pub fits : (r : Record) (b : Machine) (x y z : Bool) → keeps_layout slot ≡ true → r ≡ record_of slot → b ≡ machine_back r m →
      x ≡ ram_place_fits r.saved ram → y ≡ paper_places_fit r.paper.mask r.printers paper → z ≡ state_keeps b paper →
      (x && y && z) ≡ true → Some b ≡ checked_of slot m ram paper
  fits r b x y z keeps er eb ex ey ez e = ap (λ f. then_some f b) (sym e) ∙ laid_out r b x y z keeps er eb ex ey ez

  pub fits_not : (r : Record) (b : Machine) (x y z : Bool) → keeps_layout slot ≡ true → r ≡ record_of slot → b ≡ machine_back r m →
      x ≡ ram_place_fits r.saved ram → y ≡ paper_places_fit r.paper.mask r.printers paper → z ≡ state_keeps b paper →
      (x && y && z) ≡ false → None ≡ checked_of slot m ram paper
  fits_not r b x y z keeps er eb ex ey ez e = ap (λ f. then_some f b) (sym e) ∙ laid_out r b x y z keeps er eb ex ey ez
