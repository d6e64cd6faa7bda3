-- `lastwrite::answer_words` meets its contract.
use Rattle.std.proofs.Common.{◌+◌, ◌-◌, ◌%◌, ◌^◌, arith}
use Rattle.frames.proofs.Answers.{wraps_back}
use Rattle.lastwrite.proofs.Answers.{counted_at, words_at}
use Rattle.lastwrite.proofs.answer_words.Goals as goal

pub overflow_sub-clock : goal.overflow_sub-clock
overflow_sub-clock c = omega (arith, counted_at c.in-Some.is c.requires)

pub returns-in-Some : goal.returns-in-Some
returns-in-Some c =
    let time = c.args.time in
    let passed = c.in-Some.change.step - 1 in
    rw c.in-Some.is
    (words_at time c.in-Some.change _ (wraps_back ((time + (2 ^ 64 - passed)) % 2 ^ 64) time passed (omega arith) (omega arith) (omega arith)))
