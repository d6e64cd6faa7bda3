-- `rules::tlb_keeps` meets its contract: `all` asks each row.
use mathlib.Core.Path.{◌≡◌, refl}
use mathlib.Core.Bool.{Bool, true, false}
use native.Mathlib.Omega.{arith}
use Rattle.std.proofs.Common as std
use Rattle.std.proofs.lemmas.Iterator.{YieldsList-from_slice, cases_from_all}
use Rattle.device.proofs.All.{every_told}
use Rattle.tlb.specs.declared.Row.{Row}
use Rattle.tlb.specs.Entry.{no_row}
use Rattle.rules.specs.Rules.{entry_keeps, row_keeps}
use Rattle.rules.proofs.tlb_keeps.Goals as goal

pub returns : goal.returns
returns c =
    let rows = c.args.rows in
    let t : Row → Bool = λ r. entry_keeps r.high r.low in
    let told = cases_from_all _ _ c.all.result (λ r. t r ≡ true) (λ r. t r ≡ false) c.all.ensures.ran (YieldsList-from_slice rows (cc))
    (λ x q k. search std.rules) (λ x q k. search std.rules) in
    every_told t (row_keeps rows) rows no_row 16 (omega arith) (λ k h. refl) c.all.result told
