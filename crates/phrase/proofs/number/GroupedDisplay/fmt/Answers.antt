-- The number's text is what crate `text` laid.
use Rattle.text.specs.Spelt.{grouped_of}
use Rattle.phrase.proofs.Showing.{shown}
use Rattle.phrase.proofs.Widths.{grouped_fits}
use Rattle.phrase.proofs.number.GroupedDisplay.fmt.Goals as goal

pub returns-clause-writes : goal.returns-clause-writes
returns-clause-writes g c =
    let n = c.args.self.now.0 in
    rw (← shown (grouped_of n) (grouped_fits n) c.put_grouped-len.ensures) c.pad.ensures
