-- A move of the two stacks leaves every other bit of Status, so Status stays within its mask.
use Prim.Native.Nat.{ℕ, zero, suc, ◌+◌, ◌-◌, ◌/◌, ◌^◌, ◌<◌, ◌≤◌}
use mathlib.Core.Path.{◌≡◌, refl, sym, ◌∙◌}
use mathlib.Core.Bool.{true}
use native.Mathlib.Decide.{dec_lt}
use native.Mathlib.Omega.{arith}
use Rattle.word.specs.Map.{bit}
use Rattle.word.proofs.Within.{BitsIn}
use Rattle.word.proofs.BitLaws.{shr_bit, low_bit}
use Rattle.cp0.specs.declared.status.Status.{Status}
use Rattle.cp0.specs.Stack.{pushed_stack, popped_stack}
use Rattle.cp0.specs.Word.{modes_of, middle, vm_of, above, moved, pushed_of, popped_of}
use Rattle.cp0.specs.Written.{status_mask}
use Rattle.cp0.proofs.Parts.{middle_of_word, above_of_word}

middle_at : (k word : ℕ) → k < 18 → bit k (middle word) ≡ bit (6 + k) word
middle_at k word h = low_bit 18 k (word / 2 ^ 6) h ∙ shr_bit 6 k word

module _ (rule : ℕ → ℕ → ℕ) (s : Status) (hm : rule 4 (modes_of s.word) < 2 ^ 6) (hv : rule 2 (vm_of s.word) < 2 ^ 3) where
  abbrev was : ℕ
  was = s.word

  abbrev now : ℕ
  now = (moved rule s).word

  middle_bit : (k : ℕ) → 6 ≤ k → k < 24 → bit k now ≡ bit k was
  middle_bit k low high =
      let same : middle now ≡ middle was = middle_of_word (rule 4 (modes_of was)) (middle was) (rule 2 (vm_of was)) (above was) hm (omega arith) hv in
      let e : 6 + (k - 6) ≡ k = omega arith in
      let here : bit (6 + (k - 6)) now ≡ bit (6 + (k - 6)) was =
      sym (middle_at (k - 6) now (omega arith)) ∙ rw same (middle_at (k - 6) was (omega arith)) in
      rw e at here

  above_bit : (k : ℕ) → 27 ≤ k → bit k now ≡ bit k was
  above_bit k low =
      let same : above now ≡ above was = above_of_word (rule 4 (modes_of was)) (middle was) (rule 2 (vm_of was)) (above was) hm (omega arith) hv in
      let e : 27 + (k - 27) ≡ k = omega arith in
      let here : bit (27 + (k - 27)) now ≡ bit (27 + (k - 27)) was = sym (shr_bit 27 (k - 27) now) ∙ rw same (shr_bit 27 (k - 27) was) in
      rw e at here

  -- a mask that has all bits of the stacks
  module _ (m : ℕ) (low : (k : ℕ) → k < 6 → bit k m ≡ true) (vm : (k : ℕ) → k < 3 → bit (24 + k) m ≡ true) where
    moved_within : BitsIn 32 m was → BitsIn 32 m now
    moved_within within k h on =
        elim (dec_lt k 6) [
          | yes l ↦ low k l
          | no l ↦
              elim (dec_lt k 24) [
                | yes b ↦ within k h (sym (middle_bit k (omega arith) b) ∙ on)
                | no b ↦
                    elim (dec_lt k 27) [
                      | yes v ↦ let e : 24 + (k - 24) ≡ k = omega arith in rw e at (vm (k - 24) (omega arith))
                      | no v ↦ within k h (sym (above_bit k (omega arith)) ∙ on)
                    ]
              ]
        ]

mask_low : (k : ℕ) → k < 6 → bit k status_mask ≡ true
mask_low zero h = refl
mask_low (suc zero) h = refl
mask_low (suc (suc zero)) h = refl
mask_low (suc (suc (suc zero))) h = refl
mask_low (suc (suc (suc (suc zero)))) h = refl
mask_low (suc (suc (suc (suc (suc zero))))) h = refl
mask_low (suc (suc (suc (suc (suc (suc k)))))) h = absurd (omega arith)

mask_vm : (k : ℕ) → k < 3 → bit (24 + k) status_mask ≡ true
mask_vm zero h = refl
mask_vm (suc zero) h = refl
mask_vm (suc (suc zero)) h = refl
mask_vm (suc (suc (suc k))) h = absurd (omega arith)

module _ (s : Status) (within : BitsIn 32 status_mask s.word) where
  pub pushed_within : BitsIn 32 status_mask (pushed_of s).word
  unfolding pushed_of
  pushed_within = moved_within pushed_stack s (omega arith) (omega arith) status_mask mask_low mask_vm within

  pub popped_within : BitsIn 32 status_mask (popped_of s).word
  unfolding popped_of
  popped_within = moved_within popped_stack s (omega arith) (omega arith) status_mask mask_low mask_vm within
