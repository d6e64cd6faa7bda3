-- What is good of a world, said of each part that a step changes: the registers, the core, the table, the board. Together they are `Good`.
use Prim.Native.Nat.{ℕ, ◌/◌, ◌^◌, ◌<◌}
use mathlib.Core.Path.{◌≡◌}
use mathlib.Core.Bool.{true}
use mathlib.Core.List.{List}
use native.Mathlib.Omega.{arith}
use lib.ListN.{length, get_or}
use Rattle.word.specs.Lists.{Below}
use Rattle.tlb.specs.Entry.{no_row}
use Rattle.tlb.specs.declared.Row.{Row}
use Rattle.printer.specs.Rules.{Keeps}
use Rattle.printer.specs.Tick.{no_printer}
use Rattle.printer.specs.declared.Line.{Line}
use Rattle.state.specs.Layout.{kept_words, row_words, clock_words, settings_words, printer_words, journal_words, HoldsZero, WellTyped}
use Rattle.state.specs.declared.machine.Core.{Core}
use Rattle.state.specs.declared.machine.Board.{Board}
use Rattle.state.specs.declared.machine.Journal.{Journal}
use Rattle.rules.specs.Rules.{entry_keeps, cp0_keeps, ranges_keep, slot_keeps, state_keeps}
use Rattle.rules.proofs.Kept.{kept, kept_keeps}
use Rattle.proper.specs.Proper.{RowGood}
use Rattle.step.specs.World.{World}
use Rattle.good.specs.Good.{machine_in, no_mark, Good}
use Rattle.good.proofs.Belows.{each_of, of_each, each_below}
use Rattle.good.proofs.Parts.{words, well_typed}

pub record Registers (l : List ℕ) : Type 0 where
  pub long : length l ≡ 32
  pub zero : HoldsZero l
  pub small : Below (2 ^ 32) l

pub record CoreSound (c : Core) (pending : ℕ) : Type 0 where
  pub words : Below (2 ^ 32) (kept_words c)
  pub kept : cp0_keeps c.cp0 pending ≡ true
  pub slot : slot_keeps c.slot c.branch ≡ true

pub record Table (t : List Row) : Type 0 where
  pub long : length t ≡ 16
  pub each : (i : ℕ) → i < 16 → RowGood (get_or t i no_row)

pub record LineWords (l : Line) : Type 0 where
  pub each : (i : ℕ) → i < 8 → Below (2 ^ 32) (printer_words (get_or l.printers i no_printer))
  pub pending : l.pending < 2 ^ 32

-- `room` is an eighth of the paper
pub record BoardSound (b : Board) (room : ℕ) : Type 0 where
  pub clock : Below (2 ^ 32) (clock_words b.clock)
  pub settings : Below (2 ^ 32) (settings_words b.settings)
  pub ranges : ranges_keep b.settings.scale b.settings.delay b.settings.installed ≡ true
  pub words : LineWords b.line
  pub line : Keeps b.settings.installed b.settings.delay room b.line

pub record Sound (w : World) : Type 0 where
  pub regs : Registers w.cpu.regs
  pub core : CoreSound w.cpu.core w.board.line.pending
  pub rows : Table w.cpu.tlb
  pub board : BoardSound w.board (length w.paper / 8)
  pub ram : Below 256 w.ram
  pub paper : Below 256 w.paper

-- ---- a world is good exactly if its parts are

row_good : (r : Row) → Below (2 ^ 32) (row_words r) → entry_keeps r.high r.low ≡ true → RowGood r
row_good r h e = record { high = h 0 (omega arith); low = h 1 (omega arith); kept = e }

module _ (w : World) where
  pub good_sound : Good w → Sound w
  good_sound g =
      let m = machine_in w no_mark in
      let s = g.typed.sized in
      let v = words m g.typed in
      let k = kept m (length w.paper) s.printers g.kept in
      record {
        regs = record { long = s.regs; zero = g.typed.zero; small = v.regs };
        core = record { words = v.core; kept = k.control; slot = k.slot };
        rows =
            record {
              long = s.tlb;
              each = λ i h. row_good (get_or w.cpu.tlb i no_row)
                  (each_of row_words w.cpu.tlb no_row v.rows i (let at : i < length w.cpu.tlb = omega (arith, s.tlb) in at)) (k.rows i h);
            };
        board =
            record {
              clock = v.clock;
              settings = v.settings;
              ranges = k.ranges;
              words =
                  record {
                    each = λ i h. each_of printer_words w.board.line.printers no_printer v.printers i
                        (let at : i < length w.board.line.printers = omega (arith, s.printers) in at);
                    pending = v.pending;
                  };
              line = k.line;
            };
        ram = g.ram;
        paper = g.paper;
      }

  -- with any two small words for the journal
  pub sound_words : Sound w → (mark : Journal) → Below (2 ^ 32) (journal_words mark) → WellTyped (machine_in w mark)
  sound_words s mark h =
      well_typed (machine_in w mark) (record { regs = s.regs.long; tlb = s.rows.long; printers = s.board.line.eight }) s.regs.zero
      (record {
        regs = s.regs.small;
        core = s.core.words;
        rows = of_each row_words w.cpu.tlb no_row
            (λ i l. let r = s.rows.each i (omega (arith, s.rows.long)) in each_below (row_words (get_or w.cpu.tlb i no_row)) (omega arith));
        clock = s.board.clock;
        settings = s.board.settings;
        printers = of_each printer_words w.board.line.printers no_printer
            (λ i l. s.board.words.each i (omega (arith, s.board.line.eight)));
        pending = s.board.words.pending;
        journal = h;
      })

  pub sound_keeps : Sound w → (mark : Journal) → state_keeps (machine_in w mark) (length w.paper) ≡ true
  sound_keeps s mark =
      kept_keeps (machine_in w mark) (length w.paper)
      (record {
        control = s.core.kept;
        rows = λ i h. (s.rows.each i h).kept;
        ranges = s.board.ranges;
        line = s.board.line;
        slot = s.core.slot;
      })

  pub sound_good : Sound w → Good w
  sound_good s = record {
    typed = sound_words s no_mark (each_below (journal_words no_mark) (omega arith));
    kept = sound_keeps s no_mark;
    ram = s.ram;
    paper = s.paper;
  }
