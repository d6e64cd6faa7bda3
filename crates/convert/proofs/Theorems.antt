-- What convert's statement amounts to: exact refusals, refusals that write nothing, the image of a done one, and one answer only.
use Prim.Native.Nat.{ℕ}
use mathlib.Core.Path.{◌≡◌, refl, sym, ap, ◌∙◌}
use mathlib.Core.Logic.{◌↔◌}
use mathlib.Core.Bool.{Bool, true, false, cond, ◌&&◌}
use mathlib.Core.List.{List}
use native.Mathlib.Omega.{arith}
use borrow.Author.Tests.{eqb-true}
use lib.Dec.{eqb}
use lib.ListN.{length}
use Rattle.word.specs.Lists.{Below}
use Rattle.word.proofs.Cond.{both}
use Rattle.state.specs.Layout.{bytes_of, machine_of}
use Rattle.rules.specs.Rules.{good_image}
use Rattle.answer.specs.Lent.{paper_fits}
use Rattle.answer.specs.declared.Reason.TheVariants.{NoReason}
use Rattle.answer.specs.declared.Refusal.TheVariants.{Paper, Journal, Image}
use Rattle.std.specs.Prelude.{Ok, Err}
use Rattle.answer.specs.Answer.{number_of, reason_of, steps_of, Answer, done_with}
use Rattle.convert.specs.Convert.{journal_before, keeps_before, machine_before, emptied, images_fit, convert_answer, image_after, convert_image, ConvertIs}
use Rattle.convert.proofs.Keeps.{converted_machine, converted_keeps}

abbrev answered : Bool → Bool → Bool → Answer
answered x y z = cond x (cond y (cond z (done_with 0 NoReason) (Err Image)) (Err Journal)) (Err Paper)

-- which tests led to which number
pub record By (x y z : Bool) (n : ℕ) : Type 0 where
  pub none : n ≡ 0 → (x ≡ true) × (y ≡ true) × (z ≡ true)
  pub three : n ≡ 3 → x ≡ false
  pub four : n ≡ 4 → (x ≡ true) × (y ≡ false)
  pub five : n ≡ 5 → (x ≡ true) × (y ≡ true) × (z ≡ false)

by_number : (x y z : Bool) → By x y z (number_of (answered x y z))
by_number true true true =
    record { none = λ e. (refl, refl, refl); three = λ e. absurd (omega arith); four = λ e. absurd (omega arith); five = λ e. absurd (omega arith) }
by_number true true false =
    record { none = λ e. absurd (omega arith); three = λ e. absurd (omega arith); four = λ e. absurd (omega arith); five = λ e. (refl, refl, refl) }
by_number true false z =
    record { none = λ e. absurd (omega arith); three = λ e. absurd (omega arith); four = λ e. (refl, refl); five = λ e. absurd (omega arith) }
by_number false y z =
    record { none = λ e. absurd (omega arith); three = λ e. refl; four = λ e. absurd (omega arith); five = λ e. absurd (omega arith) }

module _ (old image : List ℕ) (paper journal : ℕ) where
  abbrev number : ℕ
  number = number_of (convert_answer old image paper journal)

  told : By (paper_fits paper) (journal_before journal) (images_fit old image paper journal) number
  told = by_number (paper_fits paper) (journal_before journal) (images_fit old image paper journal)

  -- each number is answered exactly when its condition holds and no lower number's does
  pub number_3 : (number ≡ 3) ↔ (paper_fits paper ≡ false)
  number_3 = (told.three, λ p. rw p)

  pub number_4 : (number ≡ 4) ↔ ((paper_fits paper ≡ true) × (journal_before journal ≡ false))
  number_4 = (told.four, λ h. rw (h.0, h.1))

  pub number_5 : (number ≡ 5) ↔ ((paper_fits paper ≡ true) × (journal_before journal ≡ true) × (images_fit old image paper journal ≡ false))
  number_5 = (told.five, λ h. rw (h.0, h.1, h.2))

  pub number_0 : (number ≡ 0) ↔ ((paper_fits paper ≡ true) × (journal_before journal ≡ true) × (images_fit old image paper journal ≡ true))
  number_0 = (told.none, λ h. rw (h.0, h.1, h.2))

  -- a done conversion leaves the image of the old machine, with no steps on hand
  pub done_image : number ≡ 0 → convert_image old image paper journal ≡ bytes_of (emptied (machine_before old))
  done_image e =
      let h = number_0.0 e in
      rw (h.0, h.1, h.2)

  module _ (e : number ≡ 0) (bytes : Below 256 old) where
    fits : (length old ≡ 509) × (keeps_before old paper journal ≡ true)
    fits =
        let h = both (eqb (length old) 509 && eqb (length image) 741) (keeps_before old paper journal) (number_0.0 e).2 in
        (eqb-true (length old) 509 (both (eqb (length old) 509) (eqb (length image) 741) h.0).0, h.1)

    pub done_machine : machine_of (convert_image old image paper journal) ≡ emptied (machine_before old)
    done_machine = ap machine_of (done_image e) ∙ converted_machine old fits.0 bytes

    -- which keeps the rules, with a journal of any length: its slots are others than those that were lent
    pub done_keeps : (now : ℕ) → good_image (convert_image old image paper journal) paper now ≡ true
    done_keeps now = ap (λ (l : List ℕ). good_image l paper now) (done_image e) ∙ converted_keeps old fits.0 bytes paper journal now fits.1

  -- done or refused, a conversion reports no steps and no reason
  pub no_steps : (steps_of (convert_answer old image paper journal) ≡ 0) × (reason_of (convert_answer old image paper journal) ≡ 0)
  no_steps = by (paper_fits paper) (journal_before journal) (images_fit old image paper journal)
    where
      by : (x y z : Bool) → (steps_of (answered x y z) ≡ 0) × (reason_of (answered x y z) ≡ 0)
      by true true true = (refl, refl)
      by true true false = (refl, refl)
      by true false z = (refl, refl)
      by false y z = (refl, refl)

  -- a refusal leaves every byte as it was
  pub refused_same : (number ≡ 0 → ⊥) → convert_image old image paper journal ≡ image
  refused_same h = kept (convert_answer old image paper journal) h
    where
      kept : (r : Answer) → (number_of r ≡ 0 → ⊥) → image_after r old image ≡ image
      kept (Ok d) h = absurd (h refl)
      kept (Err refusal) h = refl

  -- two answers that the statement allows are equal, and so are the images
  pub one_answer : (r₁ r₂ : Answer) (b₁ b₂ : List ℕ) → ConvertIs old image paper journal r₁ b₁ → ConvertIs old image paper journal r₂ b₂ → (r₁ ≡ r₂) × (b₁ ≡ b₂)
  one_answer r₁ r₂ b₁ b₂ p q = (p.answer_is ∙ sym q.answer_is, p.image_is ∙ sym q.image_is)
