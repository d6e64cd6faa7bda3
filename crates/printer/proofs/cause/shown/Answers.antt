-- `printer::cause::shown` meets its contract: line 6 is as the map says.
use Rattle.printer.proofs.cause.shown.Goals as goal

pub returns : goal.returns
returns c = c.with_line.ensures
