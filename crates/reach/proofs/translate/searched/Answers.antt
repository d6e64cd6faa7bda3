-- `reach::translate::searched` meets its contract: what the search found is an entry of the table, by its law.
use mathlib.Core.Path.{sym, ◌∙◌}
use Rattle.tlb.proofs.Laws.{found_lowest, lowest_at, read_row}
use Rattle.tlb.specs.Search.{found_in}
use Rattle.reach.proofs.translate.searched.Goals as goal

pub returns-in-Some : goal.returns-in-Some
returns-in-Some c =
    let is = lowest_at (found_in c.sought.result c.args.rows) _ (sym c.lowest.ensures ∙ c.in-Some.is) in
    let within = (found_lowest _ _ _ _ is).within in
    rw (← c.sought.ensures, is, ← read_row _ _ within, ← c.read.ensures) c.by_row.ensures
