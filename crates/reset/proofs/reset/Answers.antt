-- `reset::reset` meets its contract: one return for each answer.
use mathlib.Core.Path.{◌≡◌, sym, ap, ◌∙◌}
use mathlib.Core.List.{List}
use native.Mathlib.Omega.{arith}
use Prim.Native.Nat.{ℕ}
use Rattle.answer.specs.declared.Refusal.{Refusal}
use Rattle.std.specs.Prelude.{Err}
use Rattle.answer.specs.Answer.{Answer}
use Rattle.state.specs.Layout.{bytes_of}
use Rattle.reset.specs.Reset.{reset_answer, image_after, index_after, ResetIs}
use Rattle.reset.proofs.Answers.{says_bad_length, says_bad_range, says_bad_index, says_done, in_range}
use Rattle.reset.proofs.reset.Goals as goal

-- a refusal, with nothing written
refused : (image index : List ℕ) (scale delay installed : ℕ) (refusal : Refusal) → reset_answer image index scale delay installed ≡ Err refusal →
    ResetIs image index scale delay installed (Err refusal) image index
refused image index scale delay installed refusal e =
    record {
      answer_is = sym e;
      image_is = sym (ap (λ (r : Answer). image_after r image scale delay installed) e);
      index_is = sym (ap (λ (r : Answer). index_after r index) e);
    }

pub returns-then-image-ne-IMAGE : goal.returns-then-image-ne-IMAGE
returns-then-image-ne-IMAGE c =
    let a = c.args in
    refused a.image.now a.index.now a.scale a.delay a.installed _
    (says_bad_length a.image.now a.index.now a.scale a.delay a.installed c.if-image-ne-IMAGE.true)

pub returns-then-not-ranges_keep : goal.returns-then-not-ranges_keep
returns-then-not-ranges_keep c =
    let a = c.args in
    refused a.image.now a.index.now a.scale a.delay a.installed _
    (says_bad_range a.image.now a.index.now a.scale a.delay a.installed (omega arith)
    (sym c.ranges_keep.ensures ∙ c.if-not-ranges_keep.true))

pub returns-then-not-any_index_fits : goal.returns-then-not-any_index_fits
returns-then-not-any_index_fits c =
    let a = c.args in
    refused a.image.now a.index.now a.scale a.delay a.installed _
    (says_bad_index a.image.now a.index.now a.scale a.delay a.installed (omega arith)
    (sym c.ranges_keep.ensures ∙ c.if-not-ranges_keep.false)
    (sym c.any_index_fits.ensures ∙ c.if-not-any_index_fits.true))

pub overflow_cast-scale : goal.overflow_cast-scale
overflow_cast-scale c =
    let a = c.args in
    let r = in_range a.scale a.delay a.installed (sym c.ranges_keep.ensures ∙ c.if-not-ranges_keep.false) in
    omega arith

pub overflow_cast-delay : goal.overflow_cast-delay
overflow_cast-delay c =
    let a = c.args in
    let r = in_range a.scale a.delay a.installed (sym c.ranges_keep.ensures ∙ c.if-not-ranges_keep.false) in
    omega arith

pub overflow_cast-installed : goal.overflow_cast-installed
overflow_cast-installed c =
    let a = c.args in
    let r = in_range a.scale a.delay a.installed (sym c.ranges_keep.ensures ∙ c.if-not-ranges_keep.false) in
    omega arith

pub returns : goal.returns
returns c =
    let a = c.args in
    let e =
    says_done a.image.now a.index.now a.scale a.delay a.installed (omega arith)
    (sym c.ranges_keep.ensures ∙ c.if-not-ranges_keep.false)
    (sym c.any_index_fits.ensures ∙ c.if-not-any_index_fits.false) in
    record {
      answer_is = sym e;
      image_is =
          c.encode.ensures ∙ ap bytes_of c.reset_machine-m.ensures
          ∙ sym (ap (λ (r : Answer). image_after r a.image.now a.scale a.delay a.installed) e);
      index_is = c.empty.ensures ∙ sym (ap (λ (r : Answer). index_after r a.index.now) e);
    }
