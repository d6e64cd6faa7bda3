-- The loop: the parts that it holds of a machine, and what it leaves of them.
use Rattle.std.specs.Prelude.{◌≡◌, ℕ, ◌≤◌, Bool, length}
use Rattle.word.specs.Lists.{flat}
use Rattle.word.specs.Sizes.{table_size}
use Rattle.ring.specs.Run.{Config, ended}
use Rattle.ring.specs.Run as ring
use Rattle.journal.specs.Journal.{slots_of, ring_of}
use Rattle.journal.specs.Journal as slots
use Rattle.state.specs.Layout.{kept_words, printer_words, HoldsZero}
use Rattle.state.specs.declared.machine.Machine.{Machine}
use Rattle.state.specs.declared.machine.Settings.{Settings}
use Rattle.decide.specs.Lent.{Whole}
use Rattle.held.specs.Board.{board_of, Told}
use Rattle.held.specs.Core.{core_in}
use Rattle.step.specs.World.{Roms}
use Rattle.marks.specs.Steps.{FitsRam}
use Rattle.turn.specs.Buffers.{Beside, roms_in}
use Rattle.turn.specs.Turn.{lent_from, world_held}
use Rattle.turn.specs.declared.Parts.{Parts}
use Rattle.run.specs.Run.{forward, reason_of}
use Rattle.run.specs.declared.Spun.{Spun}

-- ---- aids to proofs: nothing that a reader must believe

abbrev pub parts_of : Machine → Parts
parts_of m =
    record {
      core = kept_words m.cpu.core;
      held = record { clock = m.board.clock; pending = m.board.line.pending; soon = 1 };
      regs = m.cpu.regs;
      rows = m.cpu.tlb;
      words = flat printer_words m.board.line.printers;
      mark = m.journal;
    }

abbrev pub machine_of : Parts → Settings → Machine
machine_of p settings =
    record {
      cpu = record { regs = p.regs; core = core_in p.core; tlb = p.rows };
      board = board_of p.held settings p.words;
      journal = p.mark;
    }

abbrev pub config_of : (roms : Roms) → Settings → Parts → Beside → Config (forward roms)
config_of roms settings p b = record { state = world_held p settings b; side = b.index; ring = ring_of p.mark b.journal }

pub record Ready (p : Parts) (b : Beside) : Type 0 where
  pub fourteen : length p.core ≡ 14
  pub table : length p.rows ≡ table_size
  pub told : Told p.held p.words
  pub whole : Whole (lent_from b)
  pub short : length b.paper ≤ 65536
  pub ready : slots.Ready b.journal p.mark
  pub framed : FitsRam b.ram b.index
  pub zero : HoldsZero p.regs

-- b' is what is lent as the loop leaves it
abbrev pub SpinIs : ℕ → Bool → Settings → Parts → Beside → Spun → (b' : Beside) → Type 0
SpinIs budget stop settings p b r b' =
    let roms = roms_in b in
    ended (config_of roms settings r.parts b') r.steps (reason_of r.why)
    ≡ ring.run (forward roms) (slots_of b.journal) budget stop (config_of roms settings p b)
