-- Undoing the record of an effect gives each part back that the effect changed, effect by effect; whatever distance the record keeps.
use Prim.Native.Nat.{ℕ}
use mathlib.Core.Path.{◌≡◌, refl, ◌∙◌}
use mathlib.Core.List.{List}
use lib.ListN.{length, get_or, set}
use lib.Seq.{set-set, set-get_or}
use Rattle.word.specs.Lists.{Below}
use Rattle.bus.specs.Store.{bus_write_of}
use Rattle.bus.specs.declared.read.Bus.{Bus}
use Rattle.printer.specs.declared.Printer.{Printer}
use Rattle.tlb.specs.Entry.{no_row}
use Rattle.tlb.specs.declared.Row.{Row}
use Rattle.state.specs.Layout.{row_of}
use Rattle.state.specs.declared.machine.Board.{Board}
use Rattle.decide.specs.Range.{Within}
use Rattle.decide.specs.declared.effect.Effect.{Effect}
use Rattle.decide.specs.declared.effect.Effect.TheVariants.{Nothing, Register, HiLo, Control, Entry, TlbRow, Ram, DeviceLoad, DeviceStore, Raise}
use Rattle.step.specs.Parts.{regs_after, ram_after, rows_after, board_after}
use Rattle.step.specs.Note.{saved_of}
use Rattle.undo.specs.Undo.{regs_back, rows_back, ram_back, clock_back}
use Rattle.restored.proofs.Times as times
use Rattle.restored.proofs.Cells as cells

set_back : {A : Type 0} (l : List A) (i : ℕ) (new d : A) → set (set l i new) i (get_or l i d) ≡ l
set_back l i new d = set-set l i new (get_or l i d) ∙ set-get_or l i d

module _ (distance : ℕ) (regs : List ℕ) (t : List Row) (ram : List ℕ) where
  pub regs_back_lem : (b : Bus) (printers : List Printer) (e : Effect) → regs_back (saved_of distance e regs t ram) (regs_after b printers e regs) ≡ regs
  regs_back_lem b printers Nothing = refl
  regs_back_lem b printers (Register d word) = set_back regs d word 0
  regs_back_lem b printers (HiLo hi lo) = refl
  regs_back_lem b printers (Control r word) = refl
  regs_back_lem b printers (Entry row) = refl
  regs_back_lem b printers (TlbRow i high low) = refl
  regs_back_lem b printers (Ram at word) = refl
  regs_back_lem b printers (DeviceLoad d offset) = set_back regs d _ 0
  regs_back_lem b printers (DeviceStore offset word) = refl
  regs_back_lem b printers (Raise e) = refl

  pub rows_back_lem : (e : Effect) → rows_back (saved_of distance e regs t ram) (rows_after e t) ≡ t
  rows_back_lem Nothing = refl
  rows_back_lem (Register d word) = refl
  rows_back_lem (HiLo hi lo) = refl
  rows_back_lem (Control r word) = refl
  rows_back_lem (Entry row) = refl
  rows_back_lem (TlbRow i high low) = set_back t i (row_of high low) no_row
  rows_back_lem (Ram at word) = refl
  rows_back_lem (DeviceLoad d offset) = refl
  rows_back_lem (DeviceStore offset word) = refl
  rows_back_lem (Raise e) = refl

  -- of a word of RAM that there is
  pub ram_back_lem : (rows : ℕ) (e : Effect) → Within (length ram) rows e → Below 256 ram → ram_back (saved_of distance e regs t ram) (ram_after e ram) ≡ ram
  ram_back_lem rows Nothing i bytes = refl
  ram_back_lem rows (Register d word) i bytes = refl
  ram_back_lem rows (HiLo hi lo) i bytes = refl
  ram_back_lem rows (Control r word) i bytes = refl
  ram_back_lem rows (Entry row) i bytes = refl
  ram_back_lem rows (TlbRow k high low) i bytes = refl
  ram_back_lem rows (Ram at word) i bytes = cells.stored_back 4 ram at i.1 word bytes
  ram_back_lem rows (DeviceLoad d offset) i bytes = refl
  ram_back_lem rows (DeviceStore offset word) i bytes = refl
  ram_back_lem rows (Raise e) i bytes = refl

-- an effect changes nothing of the clock but the timer
pub clock_of : (timer : ℕ) (e : Effect) (b : Board) → clock_back timer (board_after e b).clock ≡ clock_back timer b.clock
clock_of timer Nothing b = refl
clock_of timer (Register d word) b = refl
clock_of timer (HiLo hi lo) b = refl
clock_of timer (Control r word) b = refl
clock_of timer (Entry row) b = refl
clock_of timer (TlbRow i high low) b = refl
clock_of timer (Ram at word) b = refl
clock_of timer (DeviceLoad d offset) b = refl
clock_of timer (DeviceStore offset word) b = times.stored_back timer (bus_write_of offset word) b.clock
clock_of timer (Raise e) b = refl

-- and nothing of the settings
pub settings_of : (e : Effect) (b : Board) → (board_after e b).settings ≡ b.settings
settings_of Nothing b = refl
settings_of (Register d word) b = refl
settings_of (HiLo hi lo) b = refl
settings_of (Control r word) b = refl
settings_of (Entry row) b = refl
settings_of (TlbRow i high low) b = refl
settings_of (Ram at word) b = refl
settings_of (DeviceLoad d offset) b = refl
settings_of (DeviceStore offset word) b = refl
settings_of (Raise e) b = refl
