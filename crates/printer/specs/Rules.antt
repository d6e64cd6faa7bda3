-- Document 01, "Rules", of the pending map and the printers: what every image keeps.
use Rattle.std.specs.Prelude.{ℕ, Bool, not, ◌&&◌, ◌||◌, cond, eqb, leb, get_or}
use Rattle.word.specs.Lists.{every}
use Rattle.word.specs.Sizes.{devices}
use Rattle.word.specs.Mask.{within}
use Rattle.word.specs.Number.{between}
use Rattle.device.specs.Line as device
use Rattle.printer.specs.declared.Printer.{Printer}
use Rattle.printer.specs.declared.Line.{Line}
use Rattle.word.specs.Map.{bit}
use Rattle.printer.specs.Tick.{no_printer, is_busy}

-- "an uninstalled printer is all 0"
abbrev pub absent_keeps : Printer → Bool
absent_keeps p = eqb p.status 0 && eqb p.command 0 && eqb p.data0 0 && eqb p.left 0 && eqb p.count 0

-- "ticks left 1 to delay if STATUS is 3 and else 0, not pending and COMMAND 0 or 2 while 3"
abbrev pub work_keeps : Bool → ℕ → Printer → Bool
work_keeps pending delay p =
    cond (is_busy p) (between 1 delay p.left && (not pending && (eqb p.command 0 || eqb p.command 2))) (eqb p.left 0)

-- "an installed one has STATUS 1 to 4, .., paper count at most paper length / 8", which is `room`
unfoldable pub present_keeps : Bool → ℕ → ℕ → Printer → Bool
present_keeps pending delay room p = between 1 4 p.status && work_keeps pending delay p && leb p.count room

unfoldable pub printer_keeps : Bool → Bool → ℕ → ℕ → Printer → Bool
printer_keeps installed pending delay room p = cond installed (present_keeps pending delay room p) (absent_keeps p)

-- printer n, by its bit of the two maps
abbrev pub printer_keeps_at : ℕ → ℕ → ℕ → Line → ℕ → Bool
printer_keeps_at installed delay room line n =
    printer_keeps (bit n installed) (bit n line.pending) delay room (get_or line.printers n no_printer)

-- the same as a test, which a call makes of a lent image
unfoldable pub line_keeps : ℕ → ℕ → ℕ → Line → Bool
line_keeps installed delay room line = within installed line.pending && every devices (printer_keeps_at installed delay room line)

-- ---- aids to proofs: nothing that a reader must believe

-- a printer's rules, as those of a device of a line
abbrev pub keeps_of : ℕ → ℕ → Bool → Bool → Printer → Bool
keeps_of delay room installed pending p = printer_keeps installed pending delay room p

-- "pending within installed", and the rules of each printer
abbrev pub Keeps : ℕ → ℕ → ℕ → Line → Type 0
Keeps installed delay room line = device.Keeps no_printer (keeps_of delay room) installed line.printers line.pending
