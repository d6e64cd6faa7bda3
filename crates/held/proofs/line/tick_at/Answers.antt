-- `held::line::tick_at` meets its contract: a printer that stands still is left, one that goes on falls by a tick, any other is put back.
use mathlib.Core.Path.{refl}
use Rattle.held.proofs.LineHeld.{still, falls, worked}
use Rattle.held.proofs.line.tick_at.Goals as goal

pub returns-then-p-ne-BUSY : goal.returns-then-p-ne-BUSY
returns-then-p-ne-BUSY c =
    let a = c.args in
    still a.words.now a.n c.requires.0 c.requires.1 a.paper.now c.printer_in-p.ensures c.if-p-ne-BUSY.true

pub returns-then-p-gt1 : goal.returns-then-p-gt1
returns-then-p-gt1 c =
    let a = c.args in
    falls a.words.now a.n c.requires.0 c.requires.1 a.paper.now c.printer_in-p.ensures c.if-p-ne-BUSY.false c.if-p-gt1.true refl

pub returns : goal.returns
returns c =
    let a = c.args in
    worked a.words.now a.n c.requires.0 c.requires.1 a.paper.now c.printer_in-p.ensures c.tick_one-one.ensures c.put_printer.ensures
