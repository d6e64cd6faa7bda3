-- `intend::control::written` meets its contract: what is written, read again.
use Rattle.cp0.proofs.Writes.{written_word}
use Rattle.intend.proofs.control.written.Goals as goal

pub returns : goal.returns
returns c =
    let a = c.args in
    rw (c.read.ensures, c.write.ensures) (written_word a.register a.word a.cp0)
