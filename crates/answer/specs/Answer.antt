-- What each answer says: document 01's number, the stop reason, the steps, and all three packed in 64 bits.
use Rattle.std.specs.Prelude.{ℕ, ◌+◌, ◌*◌, ◌^◌, Result, Ok, Err}
use Rattle.answer.specs.declared.Reason.{Reason}
use Rattle.answer.specs.declared.Reason.TheVariants.{NoReason, BudgetSpent, Exception, TwoMatches}
use Rattle.answer.specs.declared.Refusal.{Refusal}
use Rattle.answer.specs.declared.Refusal.TheVariants.{Ram, Rom, Paper, Journal, Image, Range, TooFar, BadRecord, Address, Index, Word, Room}
use Rattle.answer.specs.declared.Done.{Done}

-- done, or refused
abbrev pub Answer : Type 0
Answer = Result Done Refusal

-- done with so many steps, for such a reason
abbrev pub done_with : ℕ → Reason → Answer
done_with steps reason = Ok (record { steps = steps; reason = reason })

abbrev pub reason_number : Reason → ℕ
reason_number NoReason = 0
reason_number BudgetSpent = 1
reason_number Exception = 2
reason_number TwoMatches = 3

-- document 01, "Numbers for yes and no"
abbrev pub refusal_number : Refusal → ℕ
refusal_number Ram = 1
refusal_number Rom = 2
refusal_number Paper = 3
refusal_number Journal = 4
refusal_number Image = 5
refusal_number Range = 6
refusal_number TooFar = 7
refusal_number BadRecord = 8
refusal_number Address = 9
-- document 02, L6
refusal_number Index = 10
refusal_number Word = 11
refusal_number Room = 12

abbrev pub number_of : Answer → ℕ
number_of (Ok d) = 0
number_of (Err refusal) = refusal_number refusal

-- "Every refusal returns 0 steps and no stop reason"
abbrev pub reason_of : Answer → ℕ
reason_of (Ok d) = reason_number d.reason
reason_of (Err refusal) = 0

abbrev pub steps_of : Answer → ℕ
steps_of (Ok d) = d.steps
steps_of (Err refusal) = 0

-- the number in bits 0 to 7, the reason in bits 8 to 15, the steps in bits 32 to 63
abbrev pub packed_of : Answer → ℕ
packed_of a = number_of a + reason_of a * 2 ^ 8 + steps_of a * 2 ^ 32
