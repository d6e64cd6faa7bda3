-- The machine that an example takes one step on: an instruction at the start of RAM, PC there, kernel mode, no translation, no device, no interrupt.
use Rattle.std.specs.Prelude.{ℕ, List, [], set}
use Rattle.word.specs.Lists.{tabulate}
use Rattle.word.specs.Sizes.{devices}
use Rattle.cp0.specs.declared.registers.Cp0.{Cp0}
use Rattle.printer.specs.Tick.{no_printer}
use Rattle.state.specs.declared.machine.Board.{Board}
use Rattle.state.specs.declared.machine.Core.{Core}
use Rattle.step.specs.World.{World, Roms, roms_of, world_of}

abbrev pub no_roms : Roms
no_roms = roms_of [] []

abbrev cp0 : Cp0
cp0 =
    record {
      index = 0;
      random = 0xF00;
      entry_hi = 0;
      entry_lo = 0;
      bad_vaddr = 0;
      status = 0;
      cause = 0;
      epc = 0;
    }

abbrev core : Core
core = record { hi = 0; lo = 0; pc = 0x20000000; next_pc = 0x20000004; cp0 = cp0; slot = 0; branch = 0 }

abbrev board : Board
board =
    record {
      clock = record { high = 0; low = 0; timer = 0xFFFFFFFF };
      settings = record { scale = 1; delay = 1; installed = 0 };
      line = record { printers = tabulate devices (λ _. no_printer); pending = 0 };
    }

-- RAM's bytes, and what registers 8 and 9 hold
abbrev pub world_at : List ℕ → ℕ → ℕ → World
world_at ram eight nine = world_of core board (set (set (tabulate 32 (λ _. 0)) 8 eight) 9 nine) [] ram []
