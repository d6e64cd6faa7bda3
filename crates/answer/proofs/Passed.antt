-- What it says of the lengths that are lent that rows 1 to 4 were passed.
use Prim.Native.Nat.{ℕ}
use mathlib.Core.Path.{◌≡◌, refl, sym, ap}
use mathlib.Core.Bool.{Bool, true, false, cond, true≢false}
use Rattle.std.specs.Prelude.{Err, is_ok}
use Rattle.answer.specs.Lent.{passed, ram_fits, roms_fit, paper_fits, journal_fits, lent_test}
use Rattle.answer.specs.declared.Refusal.TheVariants as refusal
use Rattle.answer.specs.declared.Refusal.TheVariants.{Ram, Rom, Paper}

pub record Allowed (execution bootstrap ram paper journal : ℕ) : Type 0 where
  pub ram_fits : ram_fits ram ≡ true
  pub roms_fit : roms_fit execution bootstrap ≡ true
  pub paper_fits : paper_fits paper ≡ true
  pub journal_fits : journal_fits journal ≡ true

pub allowed : (execution bootstrap ram paper journal : ℕ) → lent_test execution bootstrap ram paper journal ≡ passed → Allowed execution bootstrap ram paper journal
unfolding lent_test
allowed execution bootstrap ram paper journal e =
    let h = go (ram_fits ram) (roms_fit execution bootstrap) (paper_fits paper) (journal_fits journal) (ap is_ok e) in
    record { ram_fits = h.0; roms_fit = h.1; paper_fits = h.2; journal_fits = h.3 }
  where
    go : (a b c d : Bool) → is_ok (cond a (cond b (cond c (cond d passed (Err refusal.Journal)) (Err Paper)) (Err Rom)) (Err Ram)) ≡ true →
        (a ≡ true) × (b ≡ true) × (c ≡ true) × (d ≡ true)
    go true true true true e = (refl, refl, refl, refl)
    go true true true false e = absurd (true≢false (sym e))
    go true true false d e = absurd (true≢false (sym e))
    go true false c d e = absurd (true≢false (sym e))
    go false b c d e = absurd (true≢false (sym e))
