-- `bus::read::read` meets its contract: each way out has the tests that led there.
use Prim.Native.Nat.{ℕ}
use lib.ListN.{get_or}
use Rattle.printer.specs.Tick.{no_printer}
use mathlib.Core.Path.{sym, ap, ◌∙◌}
use borrow.Author.Tests.{eq-eqb, ne_eqb, le-leb, lt-leb}
use Rattle.bus.specs.Words.{registers_of, bus_word_of}
use Rattle.bus.specs.Offset.{line_of, field_of}
use Rattle.bus.proofs.read.read.Goals as goal

pub returns-then-offset-lt-DEVICES : goal.returns-then-offset-lt-DEVICES
unfolding bus_word_of
returns-then-offset-lt-DEVICES c = rw (lt-leb _ _ c.if-offset-lt-DEVICES.true) c.bus_register.ensures

pub returns-then-line-ne-PRINTERS : goal.returns-then-line-ne-PRINTERS
unfolding bus_word_of
returns-then-line-ne-PRINTERS c = let other = ne_eqb (line_of c.args.offset) 6 (λ e. c.if-line-ne-PRINTERS.true (c.line.ensures ∙ e)) in
    rw (le-leb _ _ c.if-offset-lt-DEVICES.false, other)

pub returns : goal.returns
unfolding bus_word_of
returns c = let a = c.args in
    let ours = eq-eqb (line_of a.offset) 6 (sym c.line.ensures ∙ c.if-line-ne-PRINTERS.false) in
    let same = ap (λ (n : ℕ). get_or (registers_of (get_or a.printers n no_printer)) (field_of a.offset) 0) c.number-n.ensures in
    rw (le-leb _ _ c.if-offset-lt-DEVICES.false, ours)
    (c.printer_register.ensures ∙ rw c.field.ensures same)
