-- A load in the device area looks at one printer alone, the one that its offset names.
use Rattle.std.specs.Prelude.{◌≡◌, ℕ, ◌+◌, ◌/◌, ◌%◌, ◌<◌, Bool, true, false, List, get_or, replicate}
use mathlib.Core.Path.{refl, ap, ◌∙◌}
use native.Mathlib.Omega.{arith}
use borrow.Author.Tests.{leb-true}
use lib.ListN.{get_or-replicate}
use Rattle.word.proofs.Lists.{get_d_tabulate}
use Rattle.bus.specs.Offset.{is_device, number_of}
use Rattle.bus.specs.Words.{bus_word_of}
use Rattle.bus.specs.declared.read.Bus.{Bus}
use Rattle.printer.specs.Tick.{no_printer}
use Rattle.printer.specs.declared.Printer.{Printer}
use Rattle.held.specs.Board.{printer_in, printers_in}

pub named_word : (b : Bus) (words : List ℕ) (offset : ℕ) {named : Printer} → named ≡ printer_in words ((offset / 0x10 + 3) % 8) →
    bus_word_of b (replicate 8 named) offset ≡ bus_word_of b (printers_in words) offset
unfolding bus_word_of printers_in
named_word b words offset {named} is = go (is_device offset) refl
  where
    go : (d : Bool) → is_device offset ≡ d → bus_word_of b (replicate 8 named) offset ≡ bus_word_of b (printers_in words) offset
    go true e =
        let from = leb-true 0x50 offset e in
        let number : number_of offset ≡ (offset / 0x10 + 3) % 8 = omega (arith, from) in
        let few : number_of offset < 8 = omega arith in
        let mine : get_or (replicate 8 named) (number_of offset) no_printer ≡ printer_in words (number_of offset) =
        get_or-replicate 8 (number_of offset) named no_printer few ∙ is ∙ ap (printer_in words) (omega (arith, number)) in
        rw (e, mine, get_d_tabulate 8 (printer_in words) (number_of offset) no_printer few)
    go false e = rw e
