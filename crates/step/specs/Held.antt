-- What the step's moves leave of the parts that a run holds. core', words', paper', regs' and ram' are what stands behind the references afterwards.
use Rattle.std.specs.Prelude.{◌≡◌, ℕ, List, [], length}
use Rattle.board.specs.declared.places.Sizes.{Sizes}
use Rattle.bus.specs.declared.store.Store.{Store}
use Rattle.std.specs.Prelude.{Option}
use Rattle.printer.specs.Tick.{printing, ticked_of}
use Rattle.state.specs.declared.machine.Settings.{Settings}
use Rattle.decide.specs.declared.effect.Effect.{Effect}
use Rattle.decide.specs.declared.effect.Decision.{Decision}
use Rattle.held.specs.Board.{printers_in, board_of, Waits, Told}
use Rattle.held.specs.Core.{core_in}
use Rattle.held.specs.declared.Held.{Held}
use Rattle.step.specs.World.{world_of}
use Rattle.step.specs.Tick.{tick_of}
use Rattle.step.specs.Apply.{board_stored, applied_of}
use Rattle.step.specs.Parts.{rows_after, board_after}
use Rattle.step.specs.declared.tick.AfterPrinters.{AfterPrinters}

-- ---- aids to proofs: nothing that a reader must believe

pub record PrintedIs (words : List ℕ) (map : ℕ) (paper : List ℕ) (r : AfterPrinters) (words' paper' : List ℕ) : Type 0 where
  pub ticked : printing (printers_in words') r.pending paper' ≡ ticked_of (printing (printers_in words) map paper)
  pub told : Waits r.soon words'
  pub forty : length words' ≡ 40

pub record TickIs (settings : Settings) (core : List ℕ) (held : Held) (words paper : List ℕ) (r : Held) (core' words' paper' : List ℕ) : Type 0 where
  pub world_is :
      world_of (core_in core') (board_of r settings words') [] [] [] paper'
      ≡ tick_of (world_of (core_in core) (board_of held settings words) [] [] [] paper)
  pub told : Told r words'

-- a store in the device area
pub record StoredIs (settings : Settings) (s : Option Store) (held : Held) (words : List ℕ) (r : Held) (words' : List ℕ) : Type 0 where
  pub board_is : board_of r settings words' ≡ board_stored s (board_of held settings words)
  pub told : Told r words'

pub record HeldIs (settings : Settings) (effect : Effect) (held : Held) (words : List ℕ) (r : Held) (words' : List ℕ) : Type 0 where
  pub board_is : board_of r settings words' ≡ board_after effect (board_of held settings words)
  pub told : Told r words'

pub record ApplyIs (settings : Settings) (sizes : Sizes) (d : Decision) (core : List ℕ) (held : Held) (words regs ram : List ℕ)
    (r : Held) (core' words' regs' ram' : List ℕ) : Type 0 where
  pub world_is :
      world_of (core_in core') (board_of r settings words') regs' (rows_after d.effect []) ram' []
      ≡ applied_of sizes d (world_of (core_in core) (board_of held settings words) regs [] ram [])
  pub told : Told r words'
  pub fourteen : length core' ≡ 14
