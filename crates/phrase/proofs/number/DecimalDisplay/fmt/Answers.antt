-- The number's text is what crate `text` laid.
use Rattle.text.specs.Spelt.{decimal_of}
use Rattle.phrase.proofs.Showing.{shown}
use Rattle.phrase.proofs.Widths.{decimal_fits}
use Rattle.phrase.proofs.number.DecimalDisplay.fmt.Goals as goal

pub returns-clause-writes : goal.returns-clause-writes
returns-clause-writes g c =
    let n = c.args.self.now.0 in
    rw (← shown (decimal_of n) (decimal_fits n) c.put_decimal-len.ensures) c.pad.ensures
