-- What a step does to RAM and to the clock.
use Rattle.std.specs.Prelude.{◌≡◌}
use mathlib.Core.Path.{refl, ap, ◌∙◌}
use Rattle.clock.specs.Tick.{time_of}
use Rattle.clock.specs.declared.Clock.{Clock}
use Rattle.bus.specs.declared.store.Store.{Store}
use Rattle.bus.specs.declared.store.Store.TheVariants as store
use Rattle.std.proofs.Common.{Option, Some, None}
use Rattle.bus.specs.Stored.{clock_stored}
use Rattle.bus.specs.Store.{bus_write_of}
use Rattle.decide.specs.Lent.{sizes_of}
use Rattle.decide.specs.declared.effect.Effect.{Effect}
use Rattle.decide.specs.declared.effect.Effect.TheVariants.{Nothing, Register, HiLo, Control, Entry, TlbRow, Ram, DeviceLoad, DeviceStore, Raise}
use Rattle.state.specs.declared.machine.Board.{Board}
use Rattle.step.specs.World.{World, Roms, lent_in}
use Rattle.step.specs.Tick.{tick_of}
use Rattle.step.specs.Parts.{ram_after, board_after}
use Rattle.step.specs.Step.{effect_in, step_of}
use Rattle.step.proofs.Effects.{by_parts}

-- only the effect writes RAM
pub step_ram : (roms : Roms) (w : World) → (step_of roms w).ram ≡ ram_after (effect_in roms w) w.ram
unfolding step_of tick_of
step_ram roms w = ap (λ (v : World). v.ram) (by_parts (sizes_of (lent_in roms (tick_of w))) (effect_in roms w) (tick_of w))

-- ---- the clock: an effect may set the timer, and nothing else of the clock group

stored_time : (s : Option Store) (c : Clock) → time_of (clock_stored s c) ≡ time_of c
stored_time None c = refl
stored_time (Some (store.Timer word)) c = refl
stored_time (Some (store.Command n word)) c = refl
stored_time (Some (store.Data n word)) c = refl

after_time : (e : Effect) (b : Board) → time_of (board_after e b).clock ≡ time_of b.clock
after_time Nothing b = refl
after_time (Register d word) b = refl
after_time (HiLo hi lo) b = refl
after_time (Control r word) b = refl
after_time (Entry row) b = refl
after_time (TlbRow i high low) b = refl
after_time (Ram at word) b = refl
after_time (DeviceLoad d offset) b = refl
after_time (DeviceStore offset word) b = stored_time (bus_write_of offset word) b.clock
after_time (Raise e) b = refl

-- only the tick moves it
pub step_time : (roms : Roms) (w : World) → time_of (step_of roms w).board.clock ≡ time_of (tick_of w).board.clock
unfolding step_of
step_time roms w =
    ap (λ (v : World). time_of v.board.clock) (by_parts (sizes_of (lent_in roms (tick_of w))) (effect_in roms w) (tick_of w))
    ∙ after_time (effect_in roms w) (tick_of w).board
