-- `held::line::command` meets its contract.
use Rattle.std.specs.Prelude.{Bool}
use mathlib.Core.Path.{sym, ap, ◌∙◌}
use Rattle.word.specs.Map.{with_bit}
use Rattle.held.proofs.LineHeld.{not_commanded, commanded_held}
use Rattle.held.proofs.line.command.Goals as goal

pub returns-then-not-takes_writes : goal.returns-then-not-takes_writes
returns-then-not-takes_writes c =
    let a = c.args in
    not_commanded a.words.now a.n c.requires.0 c.requires.1 a.installed a.delay a.word a.pending c.printer_in-p.ensures
    (sym c.takes_writes.ensures ∙ c.if-not-takes_writes.true)

pub returns : goal.returns
returns c =
    let a = c.args in
    commanded_held a.words.now a.n c.requires.0 c.requires.1 a.installed a.delay a.word a.pending c.printer_in-p.ensures
    (sym c.takes_writes.ensures ∙ c.if-not-takes_writes.false) c.commanded.ensures c.put_printer.ensures
    (c.with_bit.ensures ∙ ap (λ (b : Bool). with_bit a.n b a.pending) c.is_illegal.ensures)
