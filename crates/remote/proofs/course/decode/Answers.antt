-- `remote::course::decode` meets its contract.
use Rattle.std.proofs.Common.{arith}
use Rattle.remote.proofs.Courses.{steps_more, steps_done}
use borrow.Author.Rules.{rules}
use Rattle.remote.proofs.course.decode.Goals as goal

pub loop-b-preserved : goal.loop-b-preserved
loop-b-preserved c = record {
  room = search rules;
  within = c.turn-course.ensures.within;
  told = steps_more _ c.loop-b.payload c.loop-b.course _ _ _ c.loop-b.invariant.told c.loop-b.invariant.room c.loop-b-test.true c.turn-course.ensures;
}

pub returns : goal.returns
returns c = steps_done _ _ _ _ c.loop-b.b-index _ c.loop-b.invariant.told (omega arith) c.loop-b.invariant.within
