-- A STEP KEEPS A GOOD WORLD GOOD, where what it decides is proper: the tick, then what is decided, applied.
use Prim.Native.Nat.{◌^◌, ◌<◌}
use mathlib.Core.Path.{◌≡◌}
use native.Mathlib.Omega.{arith}
use lib.ListN.{length}
use Rattle.word.specs.Lists.{Below}
use Rattle.decide.specs.Lent.{Whole, sizes_of}
use Rattle.decide.specs.Range.{Within}
use Rattle.proper.specs.Proper.{Proper}
use Rattle.proper.proofs.Decided.{decide_proper}
use Rattle.step.specs.World.{World, Roms, lent_in}
use Rattle.step.specs.Tick.{tick_of}
use Rattle.step.specs.Step.{decision_in, step_of}
use Rattle.good.specs.Good.{Good}
use Rattle.good.proofs.Applied.{apply_good}
use Rattle.good.proofs.Device.{Countable}
use Rattle.good.proofs.Lengths.{step_within}
use Rattle.good.proofs.Sources.{good_sources}
use Rattle.good.proofs.Ticked.{tick_good}

module _ (roms : Roms) (w : World) (few : length w.paper < 2 ^ 32) where
  countable : Whole (lent_in roms w) → Countable (sizes_of (lent_in roms (tick_of w)))
  unfolding tick_of
  countable whole = record { ram = whole.ram.few; execution = whole.execution.few; bootstrap = whole.bootstrap.few }

  within : Whole (lent_in roms w) → length w.cpu.tlb ≡ 16 → Within (length (tick_of w).ram) 16 (decision_in roms (tick_of w)).effect
  unfolding tick_of
  within whole sixteen = rw sixteen at (step_within roms w whole (omega arith))

  pub step_good : (decided : Proper (tick_of w).cpu.core (tick_of w).board.line.pending (decision_in roms (tick_of w))) →
      Whole (lent_in roms w) → Good w → Good (step_of roms w)
  unfolding step_of
  step_good decided whole g =
      let t = tick_of w in
      apply_good (sizes_of (lent_in roms t)) (decision_in roms t) t (countable whole) (tick_good w few g) (within whole g.typed.sized.tlb) decided

decided : (roms : Roms) → Below 256 roms.execution → Below 256 roms.bootstrap → (w : World) → length w.paper < 2 ^ 32 →
    Whole (lent_in roms w) → Good w → Proper (tick_of w).cpu.core (tick_of w).board.line.pending (decision_in roms (tick_of w))
unfolding tick_of
decided roms execution bootstrap w few whole g =
    let t = tick_of w in
    let ticked = tick_good w few g in
    decide_proper t.cpu.core t.board.line.pending t.cpu.regs t.cpu.tlb (lent_in roms t) whole (omega (arith, ticked.typed.sized.tlb))
    (good_sources roms execution bootstrap t ticked)

-- What is decided in a good world is proper, so nothing is left to ask but of what the host lends.
pub step_keeps : (roms : Roms) → Below 256 roms.execution → Below 256 roms.bootstrap → (w : World) → length w.paper < 2 ^ 32 →
    Whole (lent_in roms w) → Good w → Good (step_of roms w)
step_keeps roms execution bootstrap w few whole g = step_good roms w few (decided roms execution bootstrap w few whole g) whole g
