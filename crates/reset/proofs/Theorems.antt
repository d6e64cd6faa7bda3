-- What reset's statement amounts to: exact refusals, refusals that write nothing, the image and the index of a done one, and one answer only.
use Prim.Native.Nat.{ℕ}
use mathlib.Core.Path.{◌≡◌, refl, sym, ap, ◌∙◌}
use mathlib.Core.Logic.{◌↔◌}
use mathlib.Core.Bool.{Bool, true, false, cond}
use mathlib.Core.List.{List, [], ◌∷◌}
use native.Mathlib.Omega.{arith}
use borrow.Author.Tests.{eqb-true, eqb-false}
use lib.Dec.{eqb}
use lib.ListN.{length, replicate}
use Rattle.state.specs.Layout.{bytes_of}
use Rattle.rules.specs.Rules.{ranges_keep, good_image}
use Rattle.answer.specs.Lent.{any_index_fits}
use Rattle.answer.proofs.Rows.{Row, row, number_in, number_at, First, number_exact}
use Rattle.answer.specs.declared.Reason.TheVariants.{NoReason}
use Rattle.answer.specs.declared.Refusal.TheVariants.{Image, Range, Index}
use Rattle.std.specs.Prelude.{Ok, Err}
use Rattle.answer.specs.Answer.{number_of, reason_of, steps_of, Answer, done_with}
use Rattle.reset.specs.Reset.{reset_machine, reset_answer, image_after, reset_image, index_after, reset_index, ResetIs}
use Rattle.reset.proofs.Answers.{says_bad_length, says_bad_range, says_bad_index, says_done}
use Rattle.reset.proofs.Keeps.{reset_keeps}

-- the answer by its three tests: the image's length, the ranges, the index's length
abbrev by_tests : Bool → Bool → Bool → Answer
by_tests x y z = cond x (cond y (cond z (done_with 0 NoReason) (Err Index)) (Err Range)) (Err Image)

abbrev rows_of : (x y z : Bool) → List Row
rows_of x y z = row 5 x ∷ row 6 y ∷ row 10 z ∷ []

by_rows : (x y z : Bool) → number_of (by_tests x y z) ≡ number_in (rows_of x y z)
by_rows true true true = refl
by_rows true true false = refl
by_rows true false z = refl
by_rows false y z = refl

module _ (image index : List ℕ) (scale delay installed : ℕ) where
  abbrev answer : Answer
  answer = reset_answer image index scale delay installed

  abbrev number : ℕ
  number = number_of answer

  abbrev rows : List Row
  rows = rows_of (eqb (length image) 741) (ranges_keep scale delay installed) (any_index_fits (length index))

  led : (k : ℕ) → number ≡ number_at k rows → First k rows
  led k =
      (number_exact rows (omega arith, (omega arith, (omega arith, tt))) number
      (by_rows (eqb (length image) 741) (ranges_keep scale delay installed) (any_index_fits (length index))) k).0

  -- each number is answered exactly when its condition holds and no lower number's does
  pub number_5 : (number ≡ 5) ↔ (length image ≡ 741 → ⊥)
  number_5 = (
    λ e. eqb-false (length image) 741 (led 0 e),
    λ h. ap number_of (says_bad_length image index scale delay installed h),
  )

  pub number_6 : (number ≡ 6) ↔ ((length image ≡ 741) × (ranges_keep scale delay installed ≡ false))
  number_6 = (
    λ e.
        let t = led 1 e in
        (eqb-true (length image) 741 t.0, t.1),
    λ h. ap number_of (says_bad_range image index scale delay installed h.0 h.1),
  )

  pub number_10 : (number ≡ 10) ↔ ((length image ≡ 741) × (ranges_keep scale delay installed ≡ true) × (any_index_fits (length index) ≡ false))
  number_10 = (
    λ e.
        let t = led 2 e in
        (eqb-true (length image) 741 t.0, t.1.0, t.1.1),
    λ h. ap number_of (says_bad_index image index scale delay installed h.0 h.1 h.2),
  )

  pub number_0 : (number ≡ 0) ↔ ((length image ≡ 741) × (ranges_keep scale delay installed ≡ true) × (any_index_fits (length index) ≡ true))
  number_0 = (
    λ e.
        let t = led 3 e in
        (eqb-true (length image) 741 t.0, t.1.0, t.1.1.0),
    λ h. ap number_of (says_done image index scale delay installed h.0 h.1 h.2),
  )

  done : number ≡ 0 → answer ≡ done_with 0 NoReason
  done e =
      let h = number_0.0 e in
      says_done image index scale delay installed h.0 h.1 h.2

  -- a done reset leaves exactly document 01's image
  pub done_image : number ≡ 0 → reset_image image index scale delay installed ≡ bytes_of (reset_machine scale delay installed)
  done_image e = ap (λ (r : Answer). image_after r image scale delay installed) (done e)

  -- and an empty index, of the length that was lent
  pub done_index : number ≡ 0 → reset_index image index scale delay installed ≡ replicate (length index) 0
  done_index e = ap (λ (r : Answer). index_after r index) (done e)

  -- the image is of the right length and keeps the rules, with any paper and journal
  pub done_keeps : number ≡ 0 → (paper journal : ℕ) → good_image (reset_image image index scale delay installed) paper journal ≡ true
  done_keeps e paper journal =
      ap (λ (l : List ℕ). good_image l paper journal) (done_image e) ∙ reset_keeps scale delay installed (number_0.0 e).1 paper journal

  -- done or refused, a reset reports no steps and no reason
  pub no_steps : (steps_of answer ≡ 0) × (reason_of answer ≡ 0)
  no_steps = by (eqb (length image) 741) (ranges_keep scale delay installed) (any_index_fits (length index))
    where
      by : (x y z : Bool) → (steps_of (by_tests x y z) ≡ 0) × (reason_of (by_tests x y z) ≡ 0)
      by true true true = (refl, refl)
      by true true false = (refl, refl)
      by true false z = (refl, refl)
      by false y z = (refl, refl)

  -- a refusal leaves every byte as it was
  pub refused_same : (number ≡ 0 → ⊥) → (reset_image image index scale delay installed ≡ image) × (reset_index image index scale delay installed ≡ index)
  refused_same h = kept answer h
    where
      kept : (r : Answer) → (number_of r ≡ 0 → ⊥) → (image_after r image scale delay installed ≡ image) × (index_after r index ≡ index)
      kept (Ok d) h = absurd (h refl)
      kept (Err refusal) h = (refl, refl)

  -- two answers that the statement allows are equal, and so are the images and the indexes
  pub one_answer : (r₁ r₂ : Answer) (b₁ b₂ x₁ x₂ : List ℕ) →
      ResetIs image index scale delay installed r₁ b₁ x₁ → ResetIs image index scale delay installed r₂ b₂ x₂ → (r₁ ≡ r₂) × (b₁ ≡ b₂) × (x₁ ≡ x₂)
  one_answer r₁ r₂ b₁ b₂ x₁ x₂ p q =
      (p.answer_is ∙ sym q.answer_is, p.image_is ∙ sym q.image_is, p.index_is ∙ sym q.index_is)
