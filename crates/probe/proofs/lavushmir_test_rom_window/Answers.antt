-- `probe::lavushmir_test_rom_window` meets its contract.
use mathlib.Core.Path.{◌≡◌, sym, ap, ◌∙◌}
use borrow.Author.Tests.{eq-eqb, ne_eqb}
use lib.ListN.{length}
use Rattle.probe.proofs.lavushmir_test_rom_window.Goals as goal

pub returns-then-part-ne4 : goal.returns-then-part-ne4
returns-then-part-ne4 c =
    let w = c.rom_window-part.ensures in
    record { answer_is = ap length w; out_is = rw (ne_eqb _ 4 (λ (e : _ ≡ 4). c.if-part-ne4.true (ap length w ∙ e))) }

pub returns-then-out-ne4 : goal.returns-then-out-ne4
returns-then-out-ne4 c =
    let w = c.rom_window-part.ensures in
    record { answer_is = ap length w; out_is = rw (eq-eqb _ 4 (sym (ap length w) ∙ c.if-part-ne4.false), ne_eqb _ 4 c.if-out-ne4.true) }

pub returns : goal.returns
returns c =
    let tested = c in
    let w = tested.rom_window-part.ensures in
    record {
      answer_is = ap length w;
      out_is = rw (eq-eqb _ 4 (sym (ap length w) ∙ tested.if-part-ne4.false), eq-eqb _ 4 tested.if-out-ne4.false) (c.copy_from_slice.ensures.after ∙ w);
    }
