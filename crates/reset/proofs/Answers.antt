-- When reset gives which answer, and that parameters in their ranges are words.
use Prim.Native.Nat.{ℕ, ◌≤◌}
use mathlib.Core.Path.{◌≡◌}
use mathlib.Core.Bool.{true, false}
use mathlib.Core.List.{List}
use lib.ListN.{length}
use borrow.Author.Tests.{eq-eqb, ne_eqb, leb-true}
use Rattle.word.proofs.Cond.{both}
use Rattle.rules.specs.Rules.{ranges_keep}
use Rattle.answer.specs.Lent.{any_index_fits}
use Rattle.answer.specs.declared.Reason.TheVariants.{NoReason}
use Rattle.answer.specs.declared.Refusal.TheVariants.{Image, Range, Index}
use Rattle.std.specs.Prelude.{Err}
use Rattle.answer.specs.Answer.{done_with}
use Rattle.reset.specs.Reset.{reset_answer}

module _ (image index : List ℕ) (scale delay installed : ℕ) where
  pub says_bad_length : (length image ≡ 741 → ⊥) → reset_answer image index scale delay installed ≡ Err Image
  says_bad_length h = rw (ne_eqb (length image) 741 h)

  pub says_bad_range : length image ≡ 741 → ranges_keep scale delay installed ≡ false → reset_answer image index scale delay installed ≡ Err Range
  says_bad_range h r = rw (eq-eqb (length image) 741 h) (rw r)

  pub says_bad_index : length image ≡ 741 → ranges_keep scale delay installed ≡ true → any_index_fits (length index) ≡ false →
      reset_answer image index scale delay installed ≡ Err Index
  says_bad_index h r f = rw (eq-eqb (length image) 741 h) (rw r (rw f))

  pub says_done : length image ≡ 741 → ranges_keep scale delay installed ≡ true → any_index_fits (length index) ≡ true →
      reset_answer image index scale delay installed ≡ done_with 0 NoReason
  says_done h r f = rw (eq-eqb (length image) 741 h) (rw r (rw f))

pub record InRange (s d i : ℕ) : Type 0 where
  pub scale_low : 1 ≤ s
  pub scale : s ≤ 255
  pub delay_low : 1 ≤ d
  pub delay : d ≤ 65535
  pub installed : i ≤ 255

pub in_range : (s d i : ℕ) → ranges_keep s d i ≡ true → InRange s d i
in_range s d i e =
    let h = both _ _ e in
    let g = both _ _ h.0 in
    let scales = both _ _ g.0 in
    let delays = both _ _ g.1 in
    record {
      scale_low = leb-true 1 s scales.0;
      scale = leb-true s 255 scales.1;
      delay_low = leb-true 1 d delays.0;
      delay = leb-true d 65535 delays.1;
      installed = leb-true i 255 h.1;
    }
