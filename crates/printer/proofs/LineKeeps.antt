-- The line keeps its rules over a tick and over every write. What is so of every line of devices is `device`'s.
use Prim.Native.Nat.{ℕ, ◌-◌, ◌≤◌, ◌<◌}
use mathlib.Core.Path.{◌≡◌, refl}
use mathlib.Core.Bool.{Bool, true, false, not, cond}
use borrow.Author.Tests.{not-true}
use lib.Bits.{bit_and}
use lib.Dec.{leb}
use lib.ListN.{length, get_or, set}
use Rattle.word.specs.Map.{bit, with_bit}
use Rattle.word.proofs.Cond.{both}
use Rattle.device.proofs.Keeping as device
use Rattle.printer.specs.declared.Printer.{Printer}
use Rattle.printer.specs.declared.Line.{Line}
use Rattle.printer.specs.Tick.{Printing, no_printer, is_busy, finishes, room_of, printer_ticked, ticked_of}
use Rattle.printer.specs.Command.{is_illegal, commanded_of, with_data, takes_writes, command_of, data_of}
use Rattle.printer.specs.Rules.{printer_keeps, keeps_of, Keeps, line_keeps}
use Rattle.printer.proofs.Passed.{room_ticks, printers_told, pending_told}
use Rattle.printer.proofs.PrinterKeeps.{Present, present, absent_idle, ticked_keeps, commanded_keeps, with_data_keeps}

-- a printer that finishes is busy, so it is installed
finisher_here : (delay room : ℕ) (installed pending : Bool) (p : Printer) → keeps_of delay room installed pending p ≡ true → finishes p ≡ true → installed ≡ true
unfolding printer_keeps
finisher_here delay room true pending p k f = refl
finisher_here delay room false pending p k f = absurd (absent_idle p k (both (is_busy p) (leb p.left 1) f).0)

-- A tick keeps the rules.
pub tick_keeps : (installed delay : ℕ) (s : Printing) → Keeps installed delay (room_of s.paper) s.line →
    Keeps installed delay (room_of (ticked_of s).paper) (ticked_of s).line
tick_keeps installed delay s k =
    rw (room_ticks s 8, printers_told s 8, pending_told s 8)
    (device.tick_keeps no_printer (keeps_of delay (room_of s.paper)) installed s.line.printers s.line.pending k finishes (printer_ticked (room_of s.paper))
    (finisher_here delay (room_of s.paper)) (λ i on p h. ticked_keeps delay (room_of s.paper) p i on h))

-- ---- a write to printer n

module _ (installed delay room n : ℕ) (line : Line) (k : Keeps installed delay room line) (in_line : n < 8) where
  abbrev p : Printer
  p = get_or line.printers n no_printer

  -- a printer that takes writes is installed and idle
  taker : takes_writes installed n line ≡ true → (bit n installed ≡ true) × (is_busy p ≡ false) × Present (bit n line.pending) delay room p
  unfolding printer_keeps
  taker e =
      let h = both (bit n installed) (not (is_busy p)) e in
      let keeps = rw h.0 at (k.each n in_line) in
      (h.0, not-true (is_busy p) h.1, present (bit n line.pending) delay room p keeps)

  -- A command keeps the rules.
  pub command_keeps : (word : ℕ) → 1 ≤ delay → Keeps installed delay room (command_of installed delay n word line)
  unfolding command_of printer_keeps
  command_keeps word some = go (takes_writes installed n line) refl
    where
      go : (takes : Bool) → takes_writes installed n line ≡ takes →
          Keeps installed delay room
          (cond takes (record { printers = set line.printers n (commanded_of delay word p); pending = with_bit n (is_illegal word) line.pending }) line)
      go false e = k
      go true e =
          let t = taker e in
          device.one_anew no_printer (keeps_of delay room) installed line.printers line.pending k n in_line (commanded_of delay word p) t.0 (is_illegal word)
          (rw t.0 (commanded_keeps (bit n line.pending) delay room p t.2 t.1 word some))

  -- A write of DATA0 keeps the rules.
  pub data_keeps : (word : ℕ) → Keeps installed delay room (data_of installed n word line)
  unfolding data_of printer_keeps
  data_keeps word = go (takes_writes installed n line) refl
    where
      go : (takes : Bool) → takes_writes installed n line ≡ takes →
          Keeps installed delay room (cond takes (record { printers = set line.printers n (with_data word p); pending = line.pending }) line)
      go false e = k
      go true e =
          let t = taker e in
          device.same_anew no_printer (keeps_of delay room) installed line.printers line.pending k n in_line (with_data word p) t.0
          (rw t.0 (with_data_keeps (bit n line.pending) delay room p t.2 t.1 word))

-- ---- the test says what the rules say

pub tested : (installed delay room : ℕ) (line : Line) → length line.printers ≡ 8 → line_keeps installed delay room line ≡ true → Keeps installed delay room line
unfolding line_keeps
tested installed delay room line eight e = device.tested no_printer (keeps_of delay room) installed line.printers line.pending eight e

pub kept_tests : (installed delay room : ℕ) (line : Line) → Keeps installed delay room line → line_keeps installed delay room line ≡ true
unfolding line_keeps
kept_tests installed delay room line k = device.kept_tests no_printer (keeps_of delay room) installed line.printers line.pending k

-- the pending map lies within the installed map
pub pending_within : (installed delay room : ℕ) (line : Line) → Keeps installed delay room line → bit_and line.pending (0xFFFFFFFF - installed) ≡ 0
pending_within installed delay room line k = device.pending_within no_printer (keeps_of delay room) installed line.printers line.pending k
