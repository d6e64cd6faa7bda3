-- The tick printer by printer; a tick of printers that are not busy does nothing.
use Prim.Native.Nat.{ℕ, zero, suc, ◌+◌}
use mathlib.Core.Path.{◌≡◌, refl, ap}
use mathlib.Core.Bool.{false}
use mathlib.Core.List.{List}
use native.Mathlib.Numerals.{add-one}
use lib.ListN.{get_or}
use lib.Seq.{set-get_or}
pub use Rattle.device.proofs.Passed.{neither}
use Rattle.printer.specs.declared.Printer.{Printer}
use Rattle.printer.specs.Tick.{Printing, printing, no_printer, is_busy, printer_ticked, paper_ticked, tick_one, ticks, ticked_of, some_of, any_busy}

idle_one : (n : ℕ) (s : Printing) → is_busy (get_or s.line.printers n no_printer) ≡ false → tick_one n s ≡ s
unfolding tick_one printer_ticked paper_ticked
idle_one n s e =
    rw e (ap (λ (l : List Printer). printing l s.line.pending s.paper) (set-get_or s.line.printers n no_printer))

idle_ticks : (n : ℕ) (s : Printing) → some_of is_busy n s.line.printers ≡ false → ticks n s ≡ s
unfolding ticks some_of
idle_ticks zero s e = refl
idle_ticks (suc n) s e =
    let h = neither (some_of is_busy n s.line.printers) (is_busy (get_or s.line.printers n no_printer)) e in
    rw (idle_ticks n s h.0) (idle_one n s h.1)

-- where no printer is busy, a tick leaves all as it is
pub idle_tick : (s : Printing) → any_busy s.line.printers ≡ false → ticked_of s ≡ s
idle_tick s e = idle_ticks 8 s e

-- one turn of the loop over the printers
pub ticks_on : (n : ℕ) (s s₀ next : Printing) → s ≡ ticks n s₀ → next ≡ tick_one n s → next ≡ ticks (n + 1) s₀
unfolding ticks
ticks_on n s s₀ next e f = rw (f, e, add-one n)
