-- DATA0 leaves every STATUS and the ticks left, so that what is said of the printers' ends stays true.
use Rattle.std.specs.Prelude.{◌≡◌, ℕ, ◌<◌, Bool, true, false, eqb, List, length, get_or}
use mathlib.Core.Path.{refl, sym, ap, subst, ◌∙◌}
use native.Mathlib.Omega.{arith}
use borrow.Author.Tests.{eqb-true, eqb-false}
use lib.Seq.{get_or-set_same, get_or-set_other}
use Rattle.printer.specs.Command.{with_data, takes_writes, data_of}
use Rattle.printer.specs.Tick.{no_printer}
use Rattle.printer.specs.declared.Line.{Line}
use Rattle.printer.specs.declared.Printer.{Printer}
use Rattle.held.specs.Board.{printers_in, Waits1, Waits}
use Rattle.held.specs.Line.{line_in, DataIs}
use Rattle.held.proofs.Board.{length_printers}
use Rattle.held.proofs.Stored.{printer_at}

module _ (installed n word : ℕ) (few : n < 8) (soon : ℕ) where
  data_one : (line : Line) → length line.printers ≡ 8 → (m : ℕ) → Waits1 soon (get_or line.printers m no_printer) →
      Waits1 soon (get_or (data_of installed n word line).printers m no_printer)
  unfolding data_of
  data_one line eight m w = go (takes_writes installed n line) refl (eqb m n) refl
    where
      new : Printer
      new = with_data word (get_or line.printers n no_printer)

      go : (takes : Bool) → takes_writes installed n line ≡ takes → (own : Bool) → eqb m n ≡ own → Waits1 soon (get_or (data_of installed n word line).printers m no_printer)
      go false e own f = rw e w
      go true e true f =
          let same = eqb-true m n f in
          rw (e, same, get_or-set_same line.printers n new no_printer (omega (arith, few, eight))) (rw same at w)
      go true e false f = rw (e, get_or-set_other line.printers n m new no_printer (eqb-false m n f)) w

  pub data_waits : (words words' : List ℕ) → DataIs installed n word words words' → Waits soon words → Waits soon words'
  data_waits words words' done w m l =
      let are : get_or (data_of installed n word (line_in words 0)).printers m no_printer ≡ get_or (printers_in words') m no_printer =
      ap (λ (x : Line). get_or x.printers m no_printer) (sym (done.line_is 0)) in
      subst (Waits1 soon) (are ∙ printer_at words' m l)
      (data_one (line_in words 0) (length_printers words) m (subst (Waits1 soon) (sym (printer_at words m l)) (w m l)))
