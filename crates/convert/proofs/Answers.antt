-- When convert gives which answer.
use Prim.Native.Nat.{ℕ}
use mathlib.Core.Path.{◌≡◌, sym, ap, ◌∙◌}
use mathlib.Core.Bool.{true, false}
use mathlib.Core.List.{List}
use lib.ListN.{length}
use borrow.Author.Tests.{eq-eqb, ne_eqb}
use Rattle.answer.specs.Lent.{paper_fits}
use Rattle.answer.specs.declared.Reason.TheVariants.{NoReason}
use Rattle.state.specs.Layout.{bytes_of}
use Rattle.std.specs.Prelude.{Err}
use Rattle.answer.specs.Answer.{Answer, done_with}
use Rattle.answer.specs.declared.Refusal.{Refusal}
use Rattle.answer.specs.declared.Refusal.TheVariants.{Paper, Journal, Image}
use Rattle.convert.specs.Convert.{journal_before, keeps_before, machine_before, emptied, convert_answer, image_after, ConvertIs}

module _ (old image : List ℕ) (paper journal : ℕ) where
  pub says_bad_paper : paper_fits paper ≡ false → convert_answer old image paper journal ≡ Err Paper
  says_bad_paper p = rw p

  module _ (p : paper_fits paper ≡ true) where
    pub says_bad_journal : journal_before journal ≡ false → convert_answer old image paper journal ≡ Err Journal
    says_bad_journal j = rw (p, j)

    module _ (j : journal_before journal ≡ true) where
      pub says_bad_old : (length old ≡ 509 → ⊥) → convert_answer old image paper journal ≡ Err Image
      says_bad_old h = rw (p, j, ne_eqb (length old) 509 h)

      module _ (long : length old ≡ 509) where
        pub says_bad_new : (length image ≡ 741 → ⊥) → convert_answer old image paper journal ≡ Err Image
        says_bad_new h = rw (p, j, eq-eqb (length old) 509 long, ne_eqb (length image) 741 h)

        module _ (room : length image ≡ 741) where
          pub says_bad_rules : keeps_before old paper journal ≡ false → convert_answer old image paper journal ≡ Err Image
          says_bad_rules k = rw (p, j, eq-eqb (length old) 509 long, eq-eqb (length image) 741 room, k)

          pub says_done : keeps_before old paper journal ≡ true → convert_answer old image paper journal ≡ done_with 0 NoReason
          says_done k = rw (p, j, eq-eqb (length old) 509 long, eq-eqb (length image) 741 room, k)

  -- the statement, by the answer
  pub refused_is : (r : Refusal) → convert_answer old image paper journal ≡ Err r → ConvertIs old image paper journal (Err r) image
  refused_is r e = record { answer_is = sym e; image_is = sym (ap (λ (a : Answer). image_after a old image) e) }

  pub done_is : {after : List ℕ} → convert_answer old image paper journal ≡ done_with 0 NoReason → after ≡ bytes_of (emptied (machine_before old)) →
      ConvertIs old image paper journal (done_with 0 NoReason) after
  done_is e written = record { answer_is = sym e; image_is = written ∙ sym (ap (λ (a : Answer). image_after a old image) e) }
