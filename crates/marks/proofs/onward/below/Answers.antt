-- `marks::onward::below` meets its contract.
use Rattle.marks.proofs.Answers.{below_room, below_full}
use Rattle.marks.proofs.onward.below.Goals as goal

pub returns-then-hand-slots : goal.returns-then-hand-slots
returns-then-hand-slots c = below_room c.args.slots c.args.hand c.if-hand-slots.true

pub returns : goal.returns
returns c = below_full c.args.slots c.args.hand c.requires c.if-hand-slots.false
