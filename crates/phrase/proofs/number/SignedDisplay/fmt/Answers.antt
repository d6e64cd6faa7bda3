-- The number's text is what crate `text` laid.
use Rattle.text.specs.Spelt.{signed_of}
use Rattle.phrase.proofs.Showing.{shown}
use Rattle.phrase.proofs.Widths.{signed_fits}
use Rattle.phrase.proofs.number.SignedDisplay.fmt.Goals as goal

pub returns-clause-writes : goal.returns-clause-writes
returns-clause-writes g c =
    let n = c.args.self.now.0 in
    rw (← shown (signed_of n) (signed_fits n) c.put_signed-len.ensures) c.pad.ensures
