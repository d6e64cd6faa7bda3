-- A step leaves register 0 at 0: an effect in range writes none but registers 1 to 31.
use Rattle.std.specs.Prelude.{ℕ, ◌<◌, List, [], get_or, set}
use mathlib.Core.Path.{ap, ◌∙◌}
use native.Mathlib.Omega.{arith}
use lib.Seq.{get_or-set_other}
use Rattle.board.specs.declared.places.Sizes.{Sizes}
use Rattle.state.specs.Layout.{HoldsZero}
use Rattle.state.specs.declared.machine.Settings.{Settings}
use Rattle.decide.specs.Range.{Within}
use Rattle.decide.specs.declared.effect.Effect.{Effect}
use Rattle.decide.specs.declared.effect.Effect.TheVariants.{Nothing, Register, HiLo, Control, Entry, TlbRow, Ram, DeviceLoad, DeviceStore, Raise}
use Rattle.decide.specs.declared.effect.Decision.{Decision}
use Rattle.held.specs.declared.Held.{Held}
use Rattle.held.specs.Board.{board_of}
use Rattle.held.specs.Core.{core_in}
use Rattle.step.specs.World.{World, world_of}
use Rattle.step.specs.Apply.{effect_of}
use Rattle.step.specs.Held.{ApplyIs}

pub zero_set : (l : List ℕ) (d word : ℕ) → 0 < d → HoldsZero l → HoldsZero (set l d word)
zero_set l d word above zero = get_or-set_other l d 0 word 0 (λ e. omega arith) ∙ zero

effect_zero : (sizes : Sizes) (room rows : ℕ) (e : Effect) (w : World) → Within room rows e → HoldsZero w.cpu.regs → HoldsZero (effect_of sizes e w).cpu.regs
unfolding effect_of
effect_zero sizes room rows Nothing w i zero = zero
effect_zero sizes room rows (Register d word) w i zero = zero_set w.cpu.regs d word i.0 zero
effect_zero sizes room rows (HiLo hi lo) w i zero = zero
effect_zero sizes room rows (Control r word) w i zero = zero
effect_zero sizes room rows (Entry row) w i zero = zero
effect_zero sizes room rows (TlbRow k high low) w i zero = zero
effect_zero sizes room rows (Ram at word) w i zero = zero
effect_zero sizes room rows (DeviceLoad d offset) w i zero = zero_set w.cpu.regs d _ i.0 zero
effect_zero sizes room rows (DeviceStore offset word) w i zero = zero
effect_zero sizes room rows (Raise e) w i zero = zero

pub applied_zero : (room rows : ℕ) {settings : Settings} {sizes : Sizes} {d : Decision} {core : List ℕ} {held : Held} {words regs ram : List ℕ}
    {r : Held} {core' words' regs' ram' : List ℕ} →
    ApplyIs settings sizes d core held words regs ram r core' words' regs' ram' → Within room rows d.effect → HoldsZero regs → HoldsZero regs'
applied_zero room rows {settings} {sizes} {d} {core} {held} {words} {regs} {ram} applied within zero =
    ap (λ (w : World). get_or w.cpu.regs 0 0) applied.world_is
    ∙ effect_zero sizes room rows d.effect (world_of (core_in core) (board_of held settings words) regs [] ram []) within zero
