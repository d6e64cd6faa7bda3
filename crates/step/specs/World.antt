-- Everything that a step works on but the journal: the processor, the board, RAM and paper. The ROMs are beside it, since no step changes them.
use Rattle.std.specs.Prelude.{ℕ, List}
use Rattle.tlb.specs.declared.Row.{Row}
use Rattle.state.specs.declared.machine.Core.{Core}
use Rattle.state.specs.declared.machine.Cpu.{Cpu}
use Rattle.state.specs.declared.machine.Board.{Board}
use Rattle.state.specs.declared.machine.Machine.{Machine}
use Rattle.decide.specs.Lent.{Lent, lent_of}

pub record World : Type 0 where
  pub cpu : Cpu
  pub board : Board
  pub ram : List ℕ
  pub paper : List ℕ

pub record Roms : Type 0 where
  pub execution : List ℕ
  pub bootstrap : List ℕ

abbrev pub roms_of : List ℕ → List ℕ → Roms
roms_of execution bootstrap = record { execution = execution; bootstrap = bootstrap }

-- the parts put together
abbrev pub world_of : Core → Board → List ℕ → List Row → List ℕ → List ℕ → World
world_of core board regs t ram paper =
    record { cpu = record { regs = regs; core = core; tlb = t }; board = board; ram = ram; paper = paper }

-- the machine of an image with what is lent beside it
abbrev pub world_in : Machine → List ℕ → List ℕ → World
world_in m ram paper = record { cpu = m.cpu; board = m.board; ram = ram; paper = paper }

-- what an instruction reads from
abbrev pub lent_in : Roms → World → Lent
lent_in roms w = lent_of roms.execution roms.bootstrap w.ram
