-- What C unpacks is what was packed, and a reason's number tells it from the others.
use Prim.Native.Nat.{ℕ, zero, suc, ◌/◌, ◌%◌, ◌^◌, ◌<◌}
use mathlib.Core.Path.{◌≡◌, refl, sym, ap, ◌∙◌}
use native.Mathlib.Omega.{arith}
use Rattle.std.specs.Prelude.{Ok, Err}
use Rattle.answer.specs.declared.Reason.{Reason}
use Rattle.answer.specs.declared.Reason.TheVariants.{NoReason, BudgetSpent, Exception, TwoMatches}
use Rattle.answer.specs.declared.Refusal.{Refusal}
use Rattle.answer.specs.declared.Refusal.TheVariants.{Ram, Rom, Paper, Journal, Image, Range, TooFar, BadRecord, Address, Index, Word, Room}
use Rattle.answer.specs.Answer.{Answer, reason_number, refusal_number, number_of, reason_of, steps_of, packed_of}

reason_small : (r : Reason) → reason_number r < 2 ^ 8
reason_small NoReason = omega arith
reason_small BudgetSpent = omega arith
reason_small Exception = omega arith
reason_small TwoMatches = omega arith

abbrev reason_at : ℕ → Reason
reason_at zero = NoReason
reason_at (suc zero) = BudgetSpent
reason_at (suc (suc zero)) = Exception
reason_at (suc (suc (suc n))) = TwoMatches

at_number : (r : Reason) → reason_at (reason_number r) ≡ r
at_number NoReason = refl
at_number BudgetSpent = refl
at_number Exception = refl
at_number TwoMatches = refl

pub reasons_apart : (r s : Reason) → reason_number r ≡ reason_number s → r ≡ s
reasons_apart r s e = sym (at_number r) ∙ ap reason_at e ∙ at_number s

refusal_small : (r : Refusal) → refusal_number r < 2 ^ 8
refusal_small Ram = omega arith
refusal_small Rom = omega arith
refusal_small Paper = omega arith
refusal_small Journal = omega arith
refusal_small Image = omega arith
refusal_small Range = omega arith
refusal_small TooFar = omega arith
refusal_small BadRecord = omega arith
refusal_small Address = omega arith
refusal_small Index = omega arith
refusal_small Word = omega arith
refusal_small Room = omega arith

number_small : (a : Answer) → number_of a < 2 ^ 8
number_small (Ok d) = omega arith
number_small (Err refusal) = refusal_small refusal

reason_of_small : (a : Answer) → reason_of a < 2 ^ 8
reason_of_small (Ok d) = reason_small d.reason
reason_of_small (Err refusal) = omega arith

module _ (a : Answer) where
  pub unpacked_number : packed_of a % 2 ^ 8 ≡ number_of a
  unpacked_number = omega (arith, number_small a, reason_of_small a)

  pub unpacked_reason : packed_of a / 2 ^ 8 % 2 ^ 8 ≡ reason_of a
  unpacked_reason = omega (arith, number_small a, reason_of_small a)

  -- bits 16 to 31 are 0
  pub unpacked_between : packed_of a / 2 ^ 16 % 2 ^ 16 ≡ 0
  unpacked_between = omega (arith, number_small a, reason_of_small a)

  pub unpacked_steps : packed_of a / 2 ^ 32 ≡ steps_of a
  unpacked_steps = omega (arith, number_small a, reason_of_small a)
