-- Document 01, "One step" 1 and 2, in three parts, by whose they are. Document 02, L13: "Clocks and devices tick on A's turns only and their interrupts go to A; Random
-- ticks on its owner's turns."
use Rattle.std.specs.Prelude.{ℕ, Bool, true, cond, List}
use Rattle.clock.specs.Tick as clock
use Rattle.cp0.specs.Interrupt.{with_line}
use Rattle.cp0.specs.Random.{random_of, top_entry}
use Rattle.cp0.specs.Registers.{with_register}
use Rattle.cp0.specs.declared.registers.Cp0.{Cp0}
use Rattle.isa.specs.declared.instr.ControlRegister.TheVariants.{Random, Cause}
use Rattle.printer.specs.Cause.{shown_of}
use Rattle.printer.specs.Tick.{Printing, printing}
use Rattle.printer.specs.Tick as printer
use Rattle.state.specs.declared.machine.Board.{Board}
use Rattle.step.specs.World.{World}
use Rattle.step.specs.Apply.{in_cp0}

-- ---- the clock and the devices, which are the board's

-- the board and paper after their tick, and whether the timer rang
pub record BoardTick : Type 0 where
  pub board : Board
  pub paper : List ℕ
  pub rang : Bool

abbrev pub printing_of : Board → List ℕ → Printing
printing_of b paper = printing b.line.printers b.line.pending paper

-- "the 64-bit clock +1 (wraps), timer -1"; "each busy printer's ticks left falls by one; at 0 it finishes"
abbrev pub board_ticked : Board → List ℕ → BoardTick
board_ticked b paper =
    let beat = clock.ticked_of b.clock in
    let printed = printer.ticked_of (printing_of b paper) in
    record {
      board = record { clock = beat.clock; settings = b.settings; line = printed.line };
      paper = printed.paper;
      rang = beat.rang;
    }

-- ---- Random, which is its processor's: "Random goes down one, from 1 to 15"

abbrev pub random_ticked : Cp0 → Cp0
random_ticked c = with_register Random (random_of top_entry c.random) c

-- ---- the interrupt lines, in the processor that they go to

-- "the passage 0 to 0xFFFFFFFF turns on IP[2]"
abbrev pub rang_line : Bool → ℕ → ℕ
rang_line rang cause = cond rang (with_line 2 true cause) cause

-- and IP[6] shows the pending map, which is the one after the printers' tick
abbrev pub lines_ticked : Bool → ℕ → Cp0 → Cp0
lines_ticked rang pending c = with_register Cause (shown_of pending (rang_line rang c.cause)) c

-- ---- the three together

unfoldable pub tick_of : World → World
tick_of w =
    let ticked = board_ticked w.board w.paper in
    record {
      cpu = in_cp0 (lines_ticked ticked.rang ticked.board.line.pending) (in_cp0 random_ticked w.cpu);
      board = ticked.board;
      ram = w.ram;
      paper = ticked.paper;
    }
