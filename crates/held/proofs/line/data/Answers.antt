-- `held::line::data` meets its contract.
use mathlib.Core.Path.{sym, ◌∙◌}
use Rattle.held.proofs.LineHeld.{not_written, written_held}
use Rattle.held.proofs.line.data.Goals as goal

pub returns-then-takes_writes : goal.returns-then-takes_writes
returns-then-takes_writes c =
    let a = c.args in
    written_held a.words.now a.n c.requires.0 c.requires.1 a.installed a.word c.printer_in-p.ensures
    (sym c.takes_writes.ensures ∙ c.if-takes_writes.true) c.put_printer.ensures

pub returns-else-takes_writes : goal.returns-else-takes_writes
returns-else-takes_writes c =
    let a = c.args in
    not_written a.words.now a.n c.requires.0 c.requires.1 a.installed a.word c.printer_in-p.ensures
    (sym c.takes_writes.ensures ∙ c.if-takes_writes.false)
