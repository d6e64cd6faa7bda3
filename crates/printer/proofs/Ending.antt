-- What a tick leaves of the pending map, known before it: the map is not 0 exactly if it was not 0, or a printer finishes.
use Prim.Native.Nat.{ℕ, zero, suc}
use mathlib.Core.Path.{◌≡◌, refl}
use mathlib.Core.Bool.{Bool, not, ◌||◌}
use mathlib.Core.List.{List}
use lib.Dec.{eqb}
use Rattle.device.specs.Line as device
use Rattle.device.proofs.Ending.{after_some}
use Rattle.printer.specs.declared.Printer.{Printer}
use Rattle.printer.specs.Tick.{Printing, no_printer, finishes, printer_ticked, ticked_of, some_of, any_ending}
use Rattle.printer.proofs.Passed.{room, pending_told}

pub some_told : (test : Printer → Bool) (n : ℕ) (printers : List Printer) → some_of test n printers ≡ device.some_of no_printer test n printers
unfolding some_of device.some_of
some_told test zero printers = refl
some_told test (suc n) printers = rw (some_told test n printers)

pub pending_after : (s : Printing) → not (eqb (ticked_of s).line.pending 0) ≡ (not (eqb s.line.pending 0) || any_ending s.line.printers)
pending_after s =
    rw (pending_told s 8, some_told finishes 8 s.line.printers)
    (after_some no_printer finishes (printer_ticked (room s)) s.line.printers s.line.pending 8)
