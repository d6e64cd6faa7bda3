-- `tick::tick_one` meets its contract: each way out has the tests that led there.
use borrow.Author.Tests.{eq-eqb, ne_eqb, le-leb, lt-leb}
use Rattle.printer.specs.Tick.{printer_ticked, paper_ticked}
use Rattle.printer.proofs.tick.tick_one.Goals as goal

pub returns-then-p-ne-BUSY : goal.returns-then-p-ne-BUSY
unfolding printer_ticked paper_ticked
returns-then-p-ne-BUSY c = let idle = ne_eqb _ 3 c.if-p-ne-BUSY.true in
    record { printer_is = rw idle; finished_is = rw idle; paper_is = rw idle }

pub returns-then-p-gt1 : goal.returns-then-p-gt1
unfolding printer_ticked paper_ticked
returns-then-p-gt1 c = let busy = eq-eqb _ 3 c.if-p-ne-BUSY.false in
    let goes_on = lt-leb _ 1 c.if-p-gt1.true in
    record { printer_is = rw (busy, goes_on); finished_is = rw (busy, goes_on); paper_is = rw (busy, goes_on) }

pub returns : goal.returns
unfolding printer_ticked
returns c = let busy = eq-eqb _ 3 c.if-p-ne-BUSY.false in
    let last = le-leb _ 1 c.if-p-gt1.false in
    record { printer_is = rw (busy, last) c.finished.ensures; finished_is = rw (busy, last); paper_is = c.finish.ensures }
