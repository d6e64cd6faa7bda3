-- `pages::lookup` meets its contract: a frame that RAM holds does not begin below it.
use mathlib.Core.Path.{sym, ◌∙◌}
use native.Mathlib.Omega.{arith}
use Rattle.pages.proofs.Lands.{low_above}
use Rattle.pages.proofs.lookup.Goals as goal

pub overflow_sub-result : goal.overflow_sub-result
overflow_sub-result c =
    let above = low_above c.in_ok-low.low c.args.ram (sym c.in_ram.ensures ∙ c.if-not-in_ram.false) in
    omega (arith, above)
