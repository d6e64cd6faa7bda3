-- ONE STEP, as document 01 has it: the tick, then interrupt entry or an instruction, decided from what the tick left, and its effect.
use Rattle.std.specs.Prelude.{Bool, true, false}
use Rattle.decide.specs.Decide.{decide_of}
use Rattle.meets.specs.Meets.{meets_two_of}
use Rattle.decide.specs.Lent.{sizes_of}
use Rattle.decide.specs.declared.effect.Effect.{Effect}
use Rattle.decide.specs.declared.effect.Effect.TheVariants.{Nothing, Register, HiLo, Control, Entry, TlbRow, Ram, DeviceLoad, DeviceStore, Raise}
use Rattle.decide.specs.declared.effect.Decision.{Decision}
use Rattle.step.specs.World.{World, Roms, lent_in}
use Rattle.step.specs.Tick.{tick_of}
use Rattle.step.specs.Apply.{applied_of}

-- what is decided in a world that has ticked
abbrev pub decision_in : Roms → World → Decision
decision_in roms w = decide_of w.cpu.core w.cpu.regs w.cpu.tlb (lent_in roms w)

unfoldable pub step_of : Roms → World → World
step_of roms w = let t = tick_of w in applied_of (sizes_of (lent_in roms t)) (decision_in roms t) t

abbrev pub enters : Effect → Bool
enters Nothing = false
enters (Register d word) = false
enters (HiLo hi lo) = false
enters (Control r word) = false
enters (Entry row) = false
enters (TlbRow i high low) = false
enters (Ram at word) = false
enters (DeviceLoad d offset) = false
enters (DeviceStore offset word) = false
enters (Raise e) = true

-- the effect of the step from here
abbrev pub effect_in : Roms → World → Effect
effect_in roms w = (decision_in roms (tick_of w)).effect

-- does the step from here enter an exception
abbrev pub raises_of : Roms → World → Bool
raises_of roms w = enters (effect_in roms w)

-- document 02, L5: does the machine ask to halt before the step from here: the step, "looked at with the tick in mind", meets two matches
abbrev pub halts_of : Roms → World → Bool
halts_of roms w = let t = tick_of w in meets_two_of t.cpu.core t.cpu.regs t.cpu.tlb (lent_in roms t)
