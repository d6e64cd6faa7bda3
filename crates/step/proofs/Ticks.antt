-- The tick by parts: what the printers' tick, the clock's and the core's leave is the tick of the world.
use Rattle.std.specs.Prelude.{◌≡◌, ℕ, Bool, true, false, not, ◌||◌, eqb, List, []}
use mathlib.Core.Path.{refl, sym, ap, ◌∙◌}
use Rattle.clock.specs.declared.Beat.{Beat}
use Rattle.clock.specs.Tick as clock
use Rattle.cp0.specs.Interrupt.{with_line}
use Rattle.cp0.specs.Registers.{with_register}
use Rattle.isa.specs.declared.instr.ControlRegister.TheVariants.{Cause}
use Rattle.printer.specs.declared.Line.{Line}
use Rattle.printer.specs.Tick.{printing}
use Rattle.printer.specs.Tick as printer
use Rattle.printer.proofs.Ending.{pending_after}
use Rattle.tlb.specs.declared.Row.{Row}
use Rattle.state.specs.declared.machine.Core.{Core}
use Rattle.state.specs.declared.machine.Board.{Board}
use Rattle.state.specs.declared.machine.Settings.{Settings}
use Rattle.held.specs.Board.{printers_in, board_of}
use Rattle.held.specs.declared.Held.{Held}
use Rattle.step.specs.World.{World, world_of}
use Rattle.step.specs.Tick.{tick_of, random_ticked, rang_line}
use Rattle.step.specs.Apply.{with_cp0}
use Rattle.step.specs.Parts.{core_ticked, pending_ahead, ahead_of}

module _ (core : Core) (board : Board) (paper : List ℕ) where
  pub tick_is : {line : Line} {after : List ℕ} {beat : Beat} {next : Core} →
      printing line.printers line.pending after ≡ printer.ticked_of (printing board.line.printers board.line.pending paper) →
      beat ≡ clock.ticked_of board.clock →
      next ≡ core_ticked beat.rang line.pending core →
      world_of next (record { clock = beat.clock; settings = board.settings; line = line }) [] [] [] after
      ≡ tick_of (world_of core board [] [] [] paper)
  unfolding tick_of
  tick_is printed beaten moved = rw (moved, beaten, ← printed)

  -- registers, table and RAM have no part in it
  pub tick_parts : (regs : List ℕ) (t : List Row) (ram : List ℕ) →
      tick_of (world_of core board regs t ram paper)
      ≡ (let w : World = tick_of (world_of core board [] [] [] paper) in world_of w.cpu.core w.board regs t ram w.paper)
  unfolding tick_of
  tick_parts regs t ram = refl

-- ---- ahead of the tick

some_ahead : (pending : ℕ) (was ending : Bool) → not (eqb pending 0) ≡ was → not (eqb (pending_ahead pending ending) 0) ≡ (was || ending)
some_ahead pending true true e = refl
some_ahead pending false true e = refl
some_ahead pending true false e = e
some_ahead pending false false e = e

-- a printer that finishes turns its pending bit on, so that what Cause shows after the tick is known before it
pub ahead_is : (core : Core) (held : Held) (words : List ℕ) (settings : Settings) (regs : List ℕ) (t : List Row) (ram paper : List ℕ) →
    ahead_of core held words ≡ (tick_of (world_of core (board_of held settings words) regs t ram paper)).cpu.core
unfolding tick_of
ahead_is core held words settings regs t ram paper =
    let s = printing (printers_in words) held.pending paper in
    let rang : Bool = (clock.ticked_of held.clock).rang in
    let c = random_ticked core.cp0 in
    ap (λ (on : Bool). with_cp0 (with_register Cause (with_line 6 on (rang_line rang c.cause)) c) core)
    (some_ahead held.pending (not (eqb held.pending 0)) (printer.any_ending (printers_in words)) refl ∙ sym (pending_after s))
