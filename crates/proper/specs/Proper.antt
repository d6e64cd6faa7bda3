-- What an effect may leave in a machine of words that keeps the rules, so that it stays one.
use Rattle.std.specs.Prelude.{ℕ, ◌^◌, ◌<◌, ◌≡◌, true, List, length, get_or}
use Rattle.word.specs.Lists.{Below}
use Rattle.cp0.specs.Entry.{entered_of}
use Rattle.cp0.specs.Registers.{with_register, with_entry}
use Rattle.cp0.specs.declared.registers.Cp0.{Cp0}
use Rattle.tlb.specs.Entry.{no_row}
use Rattle.tlb.specs.declared.Row.{Row}
use Rattle.state.specs.Layout.{cp0_words, row_of, kept_words}
use Rattle.state.specs.Slot.{in_slot, return_of}
use Rattle.state.specs.declared.machine.Core.{Core}
use Rattle.rules.specs.Rules.{entry_keeps, cp0_keeps}
use Rattle.decide.specs.Lent.{Lent}
use Rattle.decide.specs.declared.effect.Effect.{Effect}
use Rattle.decide.specs.declared.effect.Effect.TheVariants.{Nothing, Register, HiLo, Control, Entry, TlbRow, Ram, DeviceLoad, DeviceStore, Raise}
use Rattle.decide.specs.declared.effect.Decision.{Decision}

-- ---- aids to proofs: nothing that a reader must believe

-- `pending` is the printers' map
pub record ControlGood (c : Cp0) (pending : ℕ) : Type 0 where
  pub words : Below (2 ^ 32) (cp0_words c)
  pub kept : cp0_keeps c pending ≡ true

pub record RowGood (row : Row) : Type 0 where
  pub high : row.high < 2 ^ 32
  pub low : row.low < 2 ^ 32
  pub kept : entry_keeps row.high row.low ≡ true

-- what is decided from: the core as the tick left it, the registers, the table and the lent bytes
pub record Sources (core : Core) (pending : ℕ) (regs : List ℕ) (t : List Row) (lent : Lent) : Type 0 where
  pub words : Below (2 ^ 32) (kept_words core)
  pub control : ControlGood core.cp0 pending
  pub registers : Below (2 ^ 32) regs
  pub rows : (i : ℕ) → i < length t → RowGood (get_or t i no_row)
  pub execution : Below 256 lent.execution
  pub bootstrap : Below 256 lent.bootstrap
  pub ram : Below 256 lent.ram

abbrev pub Leaves : Core → ℕ → Effect → Type 0
Leaves core pending Nothing = Unit {0}
Leaves core pending (Register d word) = word < 2 ^ 32
Leaves core pending (HiLo hi lo) = (hi < 2 ^ 32) × (lo < 2 ^ 32)
Leaves core pending (Control r word) = ControlGood (with_register r word core.cp0) pending
Leaves core pending (Entry row) = ControlGood (with_entry row.high row.low core.cp0) pending
Leaves core pending (TlbRow i high low) = RowGood (row_of high low)
Leaves core pending (Ram at word) = word < 2 ^ 32
Leaves core pending (DeviceLoad d offset) = Unit {0}
Leaves core pending (DeviceStore offset word) = word < 2 ^ 32
Leaves core pending (Raise e) = ControlGood (entered_of e (in_slot core) (return_of core) core.cp0) pending

pub record Proper (core : Core) (pending : ℕ) (d : Decision) : Type 0 where
  pub pc : d.pc < 2 ^ 32
  pub next : d.next_pc < 2 ^ 32
  pub leaves : Leaves core pending d.effect
