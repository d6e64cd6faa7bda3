-- `lastwrite::word_fits` meets its contract.
use Rattle.lastwrite.proofs.Answers.{word_below, word_above}
use Rattle.lastwrite.proofs.word_fits.Goals as goal

pub returns-then-address-lt-BASE : goal.returns-then-address-lt-BASE
returns-then-address-lt-BASE c = word_below c.args.ram c.args.address c.if-address-lt-BASE.true

pub returns : goal.returns
returns c = word_above c.args.ram c.args.address c.if-address-lt-BASE.false
