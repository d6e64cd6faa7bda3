-- The tick and the effect by parts, for functions that hold only some of them: proofs/Ticks.antt and Effects.antt show that together they are `tick_of` and `effect_of`.
use Rattle.std.specs.Prelude.{ℕ, ◌%◌, Bool, cond, List, slice_index, slice_set}
use Rattle.bus.specs.Store.{bus_write_of}
use Rattle.bus.specs.Words.{bus_word_of}
use Rattle.bus.specs.declared.read.Bus.{Bus}
use Rattle.clock.specs.Tick as clock
use Rattle.cp0.specs.Entry.{entered_of}
use Rattle.cp0.specs.Registers.{with_register, with_entry}
use Rattle.held.specs.Board.{printers_in}
use Rattle.held.specs.declared.Held.{Held}
use Rattle.memory.specs.Memory.{load_at, stored_at}
use Rattle.printer.specs.Tick.{any_ending}
use Rattle.printer.specs.declared.Printer.{Printer}
use Rattle.tlb.specs.Entry.{no_row, read_at}
use Rattle.tlb.specs.declared.Row.{Row}
use Rattle.record.specs.declared.Saved.{Saved}
use Rattle.record.specs.declared.Saved.TheVariants as saved
use Rattle.record.specs.Layout.{distance_room}
use Rattle.state.specs.Layout.{row_of}
use Rattle.state.specs.Slot.{in_slot, return_of}
use Rattle.state.specs.declared.machine.Core.{Core}
use Rattle.state.specs.declared.machine.Board.{Board}
use Rattle.decide.specs.declared.effect.Effect.{Effect}
use Rattle.decide.specs.declared.effect.Effect.TheVariants.{Nothing, Register, HiLo, Control, Entry, TlbRow, Ram, DeviceLoad, DeviceStore, Raise}
use Rattle.step.specs.Tick.{random_ticked, lines_ticked}
use Rattle.step.specs.Apply.{with_hi_lo, with_cp0, board_stored, lines_stored}

-- ---- aids to proofs: nothing that a reader must believe

-- the core after a tick; `pending` is the map after the printers' tick
abbrev pub core_ticked : Bool → ℕ → Core → Core
core_ticked rang pending c = with_cp0 (lines_ticked rang pending (random_ticked c.cp0)) c

-- a map that is 0 exactly if the one after the printers' tick is, which is all that Cause shows of it
abbrev pub pending_ahead : ℕ → Bool → ℕ
pending_ahead pending ending = cond ending 1 pending

-- the core after the next tick, from what is held before it
abbrev pub ahead_of : Core → Held → List ℕ → Core
ahead_of core held words =
    core_ticked (clock.ticked_of held.clock).rang (pending_ahead held.pending (any_ending (printers_in words))) core

-- the registers; the bus is read only where the effect asks for it
abbrev pub regs_after : Bus → List Printer → Effect → List ℕ → List ℕ
regs_after b printers Nothing regs = regs
regs_after b printers (Register d word) regs = slice_set regs d word
regs_after b printers (HiLo hi lo) regs = regs
regs_after b printers (Control r word) regs = regs
regs_after b printers (Entry row) regs = regs
regs_after b printers (TlbRow i high low) regs = regs
regs_after b printers (Ram at word) regs = regs
regs_after b printers (DeviceLoad d offset) regs = slice_set regs d (bus_word_of b printers offset)
regs_after b printers (DeviceStore offset word) regs = regs
regs_after b printers (Raise e) regs = regs

abbrev pub ram_after : Effect → List ℕ → List ℕ
ram_after Nothing ram = ram
ram_after (Register d word) ram = ram
ram_after (HiLo hi lo) ram = ram
ram_after (Control r word) ram = ram
ram_after (Entry row) ram = ram
ram_after (TlbRow i high low) ram = ram
ram_after (Ram at word) ram = stored_at 4 ram at word
ram_after (DeviceLoad d offset) ram = ram
ram_after (DeviceStore offset word) ram = ram
ram_after (Raise e) ram = ram

-- the core but for its PC pair and the slot; `pending` is the map after the effect
abbrev pub core_after : ℕ → Effect → Core → Core
core_after pending Nothing c = c
core_after pending (Register d word) c = c
core_after pending (HiLo hi lo) c = with_hi_lo hi lo c
core_after pending (Control r word) c = with_cp0 (with_register r word c.cp0) c
core_after pending (Entry row) c = with_cp0 (with_entry row.high row.low c.cp0) c
core_after pending (TlbRow i high low) c = c
core_after pending (Ram at word) c = c
core_after pending (DeviceLoad d offset) c = c
core_after pending (DeviceStore offset word) c = with_cp0 (lines_stored (bus_write_of offset word) pending c.cp0) c
core_after pending (Raise e) c = with_cp0 (entered_of e (in_slot c) (return_of c) c.cp0) c

abbrev pub rows_after : Effect → List Row → List Row
rows_after Nothing t = t
rows_after (Register d word) t = t
rows_after (HiLo hi lo) t = t
rows_after (Control r word) t = t
rows_after (Entry row) t = t
rows_after (TlbRow i high low) t = slice_set t i (row_of high low)
rows_after (Ram at word) t = t
rows_after (DeviceLoad d offset) t = t
rows_after (DeviceStore offset word) t = t
rows_after (Raise e) t = t

-- the row that the effect overwrites, which is the caller's to read: no function but the loop has the table
abbrev pub old_row : Effect → List Row → Row
old_row Nothing t = no_row
old_row (Register d word) t = no_row
old_row (HiLo hi lo) t = no_row
old_row (Control r word) t = no_row
old_row (Entry row) t = no_row
old_row (TlbRow i high low) t = read_at t i
old_row (Ram at word) t = no_row
old_row (DeviceLoad d offset) t = no_row
old_row (DeviceStore offset word) t = no_row
old_row (Raise e) t = no_row

-- what a record keeps of the effect, given that row
abbrev pub saved_with : ℕ → Effect → List ℕ → Row → List ℕ → Saved
saved_with distance Nothing regs old ram = saved.Nothing
saved_with distance (Register d word) regs old ram = saved.Register d (slice_index regs d)
saved_with distance (HiLo hi lo) regs old ram = saved.Nothing
saved_with distance (Control r word) regs old ram = saved.Nothing
saved_with distance (Entry row) regs old ram = saved.Nothing
saved_with distance (TlbRow i high low) regs old ram = saved.TlbRow i old
saved_with distance (Ram at word) regs old ram = saved.RamWord at (load_at 4 ram at) (distance % distance_room)
saved_with distance (DeviceLoad d offset) regs old ram = saved.Register d (slice_index regs d)
saved_with distance (DeviceStore offset word) regs old ram = saved.Nothing
saved_with distance (Raise e) regs old ram = saved.Nothing

abbrev pub board_after : Effect → Board → Board
board_after Nothing b = b
board_after (Register d word) b = b
board_after (HiLo hi lo) b = b
board_after (Control r word) b = b
board_after (Entry row) b = b
board_after (TlbRow i high low) b = b
board_after (Ram at word) b = b
board_after (DeviceLoad d offset) b = b
board_after (DeviceStore offset word) b = board_stored (bus_write_of offset word) b
board_after (Raise e) b = b
