-- The effect by parts is the effect: what functions that hold only some of a world's parts leave, put together.
use Rattle.std.specs.Prelude.{◌≡◌, ℕ, List, length}
use mathlib.Core.Path.{refl, ap}
use Rattle.board.specs.declared.places.Sizes.{Sizes}
use Rattle.record.specs.declared.Saved.TheVariants as saved
use Rattle.tlb.specs.declared.Row.{Row}
use Rattle.tlb.proofs.Laws.{read_row}
use Rattle.decide.specs.Range.{Within}
use Rattle.decide.specs.declared.effect.Effect.{Effect}
use Rattle.decide.specs.declared.effect.Effect.TheVariants.{Nothing, Register, HiLo, Control, Entry, TlbRow, Ram, DeviceLoad, DeviceStore, Raise}
use Rattle.step.specs.World.{World}
use Rattle.step.specs.Apply.{bus_of, effect_of}
use Rattle.step.specs.Note.{saved_of}
use Rattle.step.specs.Parts.{regs_after, ram_after, core_after, rows_after, old_row, saved_with, board_after}

-- the parts of an effect on w, as one world
abbrev pub together : Sizes → Effect → World → World
together sizes e w =
    let board = board_after e w.board in
    record {
      cpu =
          record {
            regs = regs_after (bus_of sizes w.board) w.board.line.printers e w.cpu.regs;
            core = core_after board.line.pending e w.cpu.core;
            tlb = rows_after e w.cpu.tlb;
          };
      board = board;
      ram = ram_after e w.ram;
      paper = w.paper;
    }

pub by_parts : (sizes : Sizes) (e : Effect) (w : World) → effect_of sizes e w ≡ together sizes e w
unfolding effect_of
by_parts sizes Nothing w = refl
by_parts sizes (Register d word) w = refl
by_parts sizes (HiLo hi lo) w = refl
by_parts sizes (Control r word) w = refl
by_parts sizes (Entry row) w = refl
by_parts sizes (TlbRow i high low) w = refl
by_parts sizes (Ram at word) w = refl
by_parts sizes (DeviceLoad d offset) w = refl
by_parts sizes (DeviceStore offset word) w = refl
by_parts sizes (Raise e) w = refl

-- what is saved with the old row is what is saved of the table: the effect's row is one of the table's
pub saved_row : (distance room : ℕ) (regs : List ℕ) (t : List Row) (ram : List ℕ) (e : Effect) → Within room (length t) e → saved_with distance e regs (old_row e t) ram ≡ saved_of distance e regs t ram
saved_row distance room regs t ram Nothing w = refl
saved_row distance room regs t ram (Register d word) w = refl
saved_row distance room regs t ram (HiLo hi lo) w = refl
saved_row distance room regs t ram (Control r word) w = refl
saved_row distance room regs t ram (Entry row) w = refl
saved_row distance room regs t ram (TlbRow i high low) w = ap (saved.TlbRow i) (read_row t i w)
saved_row distance room regs t ram (Ram at word) w = refl
saved_row distance room regs t ram (DeviceLoad d offset) w = refl
saved_row distance room regs t ram (DeviceStore offset word) w = refl
saved_row distance room regs t ram (Raise e) w = refl
