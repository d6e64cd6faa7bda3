-- `held::line::tick` meets its contract. The invariant: the printers passed have had their tick.
use Rattle.std.specs.Prelude.{◌≡◌, ◌<◌}
use mathlib.Core.Path.{refl, ◌∙◌}
use native.Mathlib.Omega.{arith}
use Rattle.printer.specs.Tick.{printing, ticks}
use Rattle.printer.proofs.Ticks.{ticks_on}
use Rattle.held.specs.Board.{printers_in}
use Rattle.held.proofs.LineHeld.{tick_held}
use Rattle.held.proofs.line.tick.Goals as goal

pub loop-n-init : goal.loop-n-init
unfolding ticks
loop-n-init c = (omega arith, c.requires.0, refl, refl)

pub tick_at-finished-requires : goal.tick_at-finished-requires
tick_at-finished-requires c =
    let l = c.loop-n in
    (omega arith, l.invariant.1, omega (arith, l.invariant.2, c.requires.1))

pub loop-n-preserved : goal.loop-n-preserved
loop-n-preserved c =
    let l = c.loop-n in
    let called = c.tick_at-finished in
    let few : l.n < 8 = omega arith in
    let s = printing (printers_in l.words) l.map l.paper in (
      omega arith,
      called.ensures.forty,
      called.auto.paper ∙ l.invariant.2,
      ticks_on l.n s _ _ l.invariant.3 (tick_held l.words l.n few l.invariant.1 l.map called.ensures c.pending_on-map.ensures),
    )

pub shape_of-paper : goal.shape_of-paper
shape_of-paper c = c.loop-n.invariant.2

pub returns : goal.returns
returns c =
    let l = c.loop-n in
    let all : l.n ≡ 8 = omega arith in
    record { ticked = rw all at l.invariant.3; forty = l.invariant.1 }
