-- `rules::printer_keeps` meets its contract.
use Rattle.printer.specs.Rules.{printer_keeps}
use Rattle.printer.proofs.rules.printer_keeps.Goals as goal

pub returns-then-installed : goal.returns-then-installed
unfolding printer_keeps
returns-then-installed c = rw (c.if-installed.true, c.present_keeps.ensures)

pub returns-else-installed : goal.returns-else-installed
unfolding printer_keeps
returns-else-installed c = rw (c.if-installed.false, c.absent_keeps.ensures)
