-- What a decision leaves: its effect on the one kind of place that it names, the PC pair, and whether the next step is a slot. Nothing else changes.
use Rattle.std.specs.Prelude.{ℕ, List, slice_set}
use Rattle.board.specs.declared.places.Sizes.{Sizes}
use Rattle.bus.specs.Store.{bus_write_of}
use Rattle.bus.specs.Stored.{line_stored, clock_stored, cause_stored}
use Rattle.bus.specs.Words.{bus_word_of}
use Rattle.bus.specs.declared.read.Bus.{Bus}
use Rattle.bus.specs.declared.store.Store.{Store}
use Rattle.std.specs.Prelude.{Option}
use Rattle.cp0.specs.Entry.{entered_of}
use Rattle.cp0.specs.Registers.{with_register, with_entry}
use Rattle.cp0.specs.declared.registers.Cp0.{Cp0}
use Rattle.isa.specs.declared.instr.ControlRegister.TheVariants.{Cause}
use Rattle.memory.specs.Memory.{stored_at}
use Rattle.tlb.specs.declared.Row.{Row}
use Rattle.state.specs.Layout.{row_of}
use Rattle.state.specs.Slot.{in_slot, return_of, slot_after}
use Rattle.state.specs.declared.machine.Core.{Core}
use Rattle.state.specs.declared.machine.Cpu.{Cpu}
use Rattle.state.specs.declared.machine.Board.{Board}
use Rattle.decide.specs.declared.effect.Effect.{Effect}
use Rattle.decide.specs.declared.effect.Effect.TheVariants.{Nothing, Register, HiLo, Control, Entry, TlbRow, Ram, DeviceLoad, DeviceStore, Raise}
use Rattle.decide.specs.declared.effect.Decision.{Decision}
use Rattle.step.specs.World.{World}

-- ---- a world with one part anew

abbrev pub with_regs : List ℕ → World → World
with_regs regs w =
    record { cpu = record { regs = regs; core = w.cpu.core; tlb = w.cpu.tlb }; board = w.board; ram = w.ram; paper = w.paper }

abbrev pub with_core : Core → World → World
with_core core w =
    record { cpu = record { regs = w.cpu.regs; core = core; tlb = w.cpu.tlb }; board = w.board; ram = w.ram; paper = w.paper }

abbrev pub with_tlb : List Row → World → World
with_tlb t w =
    record { cpu = record { regs = w.cpu.regs; core = w.cpu.core; tlb = t }; board = w.board; ram = w.ram; paper = w.paper }

abbrev pub with_ram : List ℕ → World → World
with_ram ram w = record { cpu = w.cpu; board = w.board; ram = ram; paper = w.paper }

abbrev pub with_hi_lo : ℕ → ℕ → Core → Core
with_hi_lo hi lo c = record { hi = hi; lo = lo; pc = c.pc; next_pc = c.next_pc; cp0 = c.cp0; slot = c.slot; branch = c.branch }

abbrev pub with_cp0 : Cp0 → Core → Core
with_cp0 cp0 c = record { hi = c.hi; lo = c.lo; pc = c.pc; next_pc = c.next_pc; cp0 = cp0; slot = c.slot; branch = c.branch }

-- a processor with its CP0 changed so
abbrev pub in_cp0 : (Cp0 → Cp0) → Cpu → Cpu
in_cp0 f p = record { regs = p.regs; core = with_cp0 (f p.core.cp0) p.core; tlb = p.tlb }

abbrev pub with_pc : ℕ → ℕ → Core → Core
with_pc pc next c = record { hi = c.hi; lo = c.lo; pc = pc; next_pc = next; cp0 = c.cp0; slot = c.slot; branch = c.branch }

-- ---- the device area

abbrev pub bus_of : Sizes → Board → Bus
bus_of sizes b =
    record {
      sizes = sizes;
      clock = b.clock;
      scale = b.settings.scale;
      installed = b.settings.installed;
      pending = b.line.pending;
    }

-- what LW reads there
abbrev pub device_word : Sizes → Board → ℕ → ℕ
device_word sizes b offset = bus_word_of (bus_of sizes b) b.line.printers offset

-- what SW does there: to the timer and the printers, and by them to the interrupt lines
abbrev pub board_stored : Option Store → Board → Board
board_stored s b =
    record {
      clock = clock_stored s b.clock;
      settings = b.settings;
      line = line_stored b.settings.installed b.settings.delay s b.line;
    }

-- in the processor that the lines go to, whichever one stores; `pending` is the map after the store
abbrev pub lines_stored : Option Store → ℕ → Cp0 → Cp0
lines_stored s pending c = with_register Cause (cause_stored s pending c.cause) c

abbrev pub device_stored : Option Store → World → World
device_stored s w =
    let b = board_stored s w.board in
    record { cpu = in_cp0 (lines_stored s b.line.pending) w.cpu; board = b; ram = w.ram; paper = w.paper }

-- ---- the effect, then the PC pair and the slot

-- `sizes` are those of the lent buffers
unfoldable pub effect_of : Sizes → Effect → World → World
effect_of sizes Nothing w = w
effect_of sizes (Register d word) w = with_regs (slice_set w.cpu.regs d word) w
effect_of sizes (HiLo hi lo) w = with_core (with_hi_lo hi lo w.cpu.core) w
effect_of sizes (Control r word) w = with_core (with_cp0 (with_register r word w.cpu.core.cp0) w.cpu.core) w
effect_of sizes (Entry row) w = with_core (with_cp0 (with_entry row.high row.low w.cpu.core.cp0) w.cpu.core) w
effect_of sizes (TlbRow i high low) w = with_tlb (slice_set w.cpu.tlb i (row_of high low)) w
effect_of sizes (Ram at word) w = with_ram (stored_at 4 w.ram at word) w
effect_of sizes (DeviceLoad d offset) w = with_regs (slice_set w.cpu.regs d (device_word sizes w.board offset)) w
effect_of sizes (DeviceStore offset word) w = device_stored (bus_write_of offset word) w
effect_of sizes (Raise e) w = with_core (with_cp0 (entered_of e (in_slot w.cpu.core) (return_of w.cpu.core) w.cpu.core.cp0) w.cpu.core) w

-- the branch's address is the PC of the step that executed it
abbrev pub paired : Decision → World → World
paired d w = with_core (with_pc d.pc d.next_pc (slot_after d.branched w.cpu.core)) w

abbrev pub applied_of : Sizes → Decision → World → World
applied_of sizes d w = paired d (effect_of sizes d.effect w)
