-- Clocks modulo `turn`: those of the steps on hand differ, and a distance in steps says a clock.
use Rattle.std.proofs.Common.{◌≡◌, ℕ, suc, ◌+◌, ◌-◌, ◌<◌, ◌≢◌, sym, ◌∙◌, arith}
use native.Mathlib.Nat.{sub-zero}
use Rattle.ring.specs.Slots.{next_slot, slot_back}
use Rattle.ring.proofs.Slots.{by_leb, next_on, next_round, back_on, back_round, back_next}

module _ (turn clock : ℕ) (small : clock < turn) where
  pub back_none : slot_back turn clock 0 ≡ clock
  back_none = back_on turn clock 0 (omega arith) ∙ sub-zero clock

  pub next_back : slot_back turn (next_slot turn clock) 1 ≡ clock
  next_back = back_next turn clock 0 small (omega arith) ∙ back_none

  pub apart : (i j : ℕ) → i < j → j < turn → slot_back turn clock i ≢ slot_back turn clock j
  apart i j l h e =
      by_leb i clock
      (λ a.
      by_leb j clock
      (λ b. omega (arith, sym (back_on turn clock i a) ∙ e ∙ back_on turn clock j b))
      (λ b. omega (arith, sym (back_on turn clock i a) ∙ e ∙ back_round turn clock j b)))
      (λ a. omega (arith, sym (back_round turn clock i a) ∙ e ∙ back_round turn clock j (omega arith)))

  -- the step k before is k back from the next clock less one
  pub distance_back : (k : ℕ) → suc k < turn → slot_back turn (next_slot turn clock) (slot_back turn clock k) ≡ suc k
  distance_back k h =
      by_leb turn (clock + 1)
      (λ round.
      let past : slot_back turn clock k ≡ clock - k = back_on turn clock k (omega arith) in
      rw (next_round turn clock round, past, back_round turn 0 (clock - k) (omega arith)) (omega arith))
      (λ on.
      rw (next_on turn clock on)
      (by_leb k clock
      (λ a. rw (back_on turn clock k a, back_on turn (clock + 1) (clock - k) (omega arith)) (omega arith))
      (λ a. rw (back_round turn clock k a, back_round turn (clock + 1) (clock + turn - k) (omega arith)) (omega arith))))
