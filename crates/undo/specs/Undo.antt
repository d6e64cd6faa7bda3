-- One step taken back from its record: every part is as the record says that it was. On hand and next slot are no part of it.
use Rattle.std.specs.Prelude.{ℕ, List, length, slice_set}
use Rattle.std.proofs.lemmas.List.Edits.{sets}
use Rattle.word.specs.Little.{to_bytes}
use Rattle.clock.specs.Tick.{time_of, clock_at, down}
use Rattle.clock.specs.declared.Clock.{Clock}
use Rattle.printer.specs.Saved.{restored_paper}
use Rattle.tlb.specs.declared.Row.{Row}
use Rattle.state.specs.declared.machine.Cpu.{Cpu}
use Rattle.state.specs.declared.machine.Board.{Board}
use Rattle.state.specs.declared.machine.Machine.{Machine}
use Rattle.record.specs.declared.Record.{Record}
use Rattle.record.specs.declared.Saved.{Saved}
use Rattle.record.specs.declared.Saved.TheVariants.{Nothing, Register, TlbRow, RamWord}
use Rattle.step.specs.World.{World}

-- ---- each part with what the record saved of it

abbrev pub regs_back : Saved → List ℕ → List ℕ
regs_back Nothing regs = regs
regs_back (Register n old) regs = slice_set regs n old
regs_back (TlbRow i row) regs = regs
regs_back (RamWord place old distance) regs = regs

abbrev pub rows_back : Saved → List Row → List Row
rows_back Nothing rows = rows
rows_back (Register n old) rows = rows
rows_back (TlbRow i row) rows = slice_set rows i row
rows_back (RamWord place old distance) rows = rows

-- A byte at a place that RAM does not have is passed over, so that RAM keeps its length whatever the record says; a whole word that has its place is the
-- store of it (`Word-back` in proofs/Laws.antt).
abbrev pub ram_back : Saved → List ℕ → List ℕ
ram_back Nothing ram = ram
ram_back (Register n old) ram = ram
ram_back (TlbRow i row) ram = ram
ram_back (RamWord place old distance) ram = sets ram place (to_bytes 4 old)

-- the 64-bit clock goes down by one and wraps
abbrev pub clock_back : ℕ → Clock → Clock
clock_back timer c = clock_at (down 64 (time_of c)) timer

abbrev pub cpu_back : Record → Cpu → Cpu
cpu_back r c = record { regs = regs_back r.saved c.regs; core = r.core; tlb = rows_back r.saved c.tlb }

abbrev pub board_back : Record → Board → Board
board_back r b =
    record {
      clock = clock_back r.timer b.clock;
      settings = b.settings;
      line = record { printers = r.printers; pending = r.pending };
    }

-- ---- the whole

unfoldable pub undo_of : Record → World → World
undo_of r w =
    record {
      cpu = cpu_back r w.cpu;
      board = board_back r w.board;
      ram = ram_back r.saved w.ram;
      paper = restored_paper r.paper r.printers w.paper;
    }

-- ---- what a record is checked against: the processor, the board, and the lengths of RAM and paper

pub record View : Type 0 where
  pub cpu : Cpu
  pub board : Board
  pub ram : ℕ
  pub paper : ℕ

abbrev pub view_of : World → View
view_of w = record { cpu = w.cpu; board = w.board; ram = length w.ram; paper = length w.paper }

abbrev pub undo_view : Record → View → View
undo_view r v = record { cpu = cpu_back r v.cpu; board = board_back r v.board; ram = v.ram; paper = v.paper }

-- ---- aids to proofs: nothing that a reader must believe

-- the same of the machine of an image, which has the journal's two words beside it
abbrev pub machine_back : Record → Machine → Machine
machine_back r m = record { cpu = cpu_back r m.cpu; board = board_back r m.board; journal = m.journal }
