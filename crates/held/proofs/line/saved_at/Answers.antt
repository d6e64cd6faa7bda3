-- `held::line::saved_at` meets its contract: a printer that goes on prints nothing.
use Rattle.held.proofs.LineHeld.{goes_on, looked_at}
use Rattle.held.proofs.line.saved_at.Goals as goal

pub returns-then-words-n-gt1 : goal.returns-then-words-n-gt1
returns-then-words-n-gt1 c =
    let a = c.args in
    goes_on a.words.now a.n a.paper.now c.if-words-n-gt1.true

pub returns : goal.returns
returns c =
    let a = c.args in
    looked_at a.words.now a.n a.paper.now c.printer_in.ensures c.saved_byte.ensures
