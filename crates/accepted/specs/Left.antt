-- What a call leaves: its answer, and what stands in each lent buffer afterwards.
use Rattle.std.specs.Prelude.{◌≡◌, Ok, Err}
use Rattle.turn.specs.Buffers.{Buffers}
use Rattle.answer.specs.Answer.{reason_of, steps_of, Answer}
use Rattle.answer.specs.Lent.{Test}

pub record Left : Type 0 where
  pub answer : Answer
  pub buffers : Buffers

abbrev pub left_of : Answer → Buffers → Left
left_of answer buffers = record { answer = answer; buffers = buffers }

-- a refusal leaves every byte
abbrev pub left_by : Test → Left → Buffers → Left
left_by (Ok _) done buffers = done
left_by (Err refusal) done buffers = left_of (Err refusal) buffers

-- every byte is as it was, and no step was run or taken back
pub record Unchanged (left : Left) (buffers : Buffers) : Type 0 where
  pub same : left.buffers ≡ buffers
  pub no_steps : steps_of left.answer ≡ 0
  pub no_reason : reason_of left.answer ≡ 0
