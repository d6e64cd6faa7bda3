-- The record that a step writes: the small words, the printers and what is overwritten, all as they were before the step.
use Rattle.std.specs.Prelude.{ℕ, ◌%◌, List, slice_index, slice_index_or}
use Rattle.memory.specs.Memory.{load_at}
use Rattle.printer.specs.Saved.{saved_paper_of}
use Rattle.tlb.specs.Entry.{no_row}
use Rattle.tlb.specs.declared.Row.{Row}
use Rattle.record.specs.declared.Saved.{Saved}
use Rattle.record.specs.declared.Saved.TheVariants as saved
use Rattle.record.specs.declared.Record.{Record}
use Rattle.record.specs.Layout.{distance_room}
use Rattle.decide.specs.declared.effect.Effect.{Effect}
use Rattle.decide.specs.declared.effect.Effect.TheVariants.{Nothing, Register, HiLo, Control, Entry, TlbRow, Ram, DeviceLoad, DeviceStore, Raise}
use Rattle.step.specs.World.{World, Roms}
use Rattle.step.specs.Step.{effect_in}

-- With a word of RAM goes its distance, a number that the step does not need and is given: the record keeps 16 bits of it.
abbrev pub saved_of : ℕ → Effect → List ℕ → List Row → List ℕ → Saved
saved_of distance Nothing regs t ram = saved.Nothing
saved_of distance (Register d word) regs t ram = saved.Register d (slice_index regs d)
saved_of distance (HiLo hi lo) regs t ram = saved.Nothing
saved_of distance (Control r word) regs t ram = saved.Nothing
saved_of distance (Entry row) regs t ram = saved.Nothing
saved_of distance (TlbRow i high low) regs t ram = saved.TlbRow i (slice_index_or t i no_row)
saved_of distance (Ram at word) regs t ram = saved.RamWord at (load_at 4 ram at) (distance % distance_room)
saved_of distance (DeviceLoad d offset) regs t ram = saved.Register d (slice_index regs d)
saved_of distance (DeviceStore offset word) regs t ram = saved.Nothing
saved_of distance (Raise e) regs t ram = saved.Nothing

unfoldable pub note_of : ℕ → Roms → World → Record
note_of distance roms w =
    record {
      core = w.cpu.core;
      timer = w.board.clock.timer;
      pending = w.board.line.pending;
      paper = saved_paper_of w.board.line.printers w.paper;
      saved = saved_of distance (effect_in roms w) w.cpu.regs w.cpu.tlb w.ram;
      printers = w.board.line.printers;
    }
