-- `backward::with_image` meets its contract: one return for each answer.
use mathlib.Core.Path.{sym, ap, ◌∙◌}
use borrow.Author.Tests.{not-true, not-false}
use Rattle.turn.specs.Buffers.{Buffers, buffers_back}
use Rattle.rules.specs.declared.Verdict.{Verdict}
use Rattle.backward.proofs.Backing.{judged_is, bad_length, bad_rules, all_passed}
use Rattle.backward.proofs.with_image.Goals as goal

pub returns-then-image-ne-IMAGE : goal.returns-then-image-ne-IMAGE
returns-then-image-ne-IMAGE c =
    let a = c.args in
    let lent : Buffers = buffers_back a.image.now a.ram.now a.paper.now a.journal.now a.index.now in
    rw (bad_length lent c.if-image-ne-IMAGE.true)

pub returns-then-not-verdict : goal.returns-then-not-verdict
returns-then-not-verdict c =
    let a = c.args in
    let lent : Buffers = buffers_back a.image.now a.ram.now a.paper.now a.journal.now a.index.now in
    rw (bad_rules lent c.if-image-ne-IMAGE.false (sym (ap (λ (v : Verdict). v.keeps) c.judged-verdict.ensures) ∙ not-true _ c.if-not-verdict.true))

pub tried-requires : goal.tried-requires
tried-requires c =
    let a = c.args in
    let lent : Buffers = buffers_back a.image.now a.ram.now a.paper.now a.journal.now a.index.now in
    let is = ap (λ (v : Verdict). v.machine) c.judged-verdict.ensures in
    let keeps = sym (ap (λ (v : Verdict). v.keeps) c.judged-verdict.ensures) ∙ not-false _ c.if-not-verdict.false in
    record { machine_value = is; image_len = c.if-image-ne-IMAGE.false; judged = judged_is lent c.requires keeps is }

pub returns : goal.returns
returns c =
    let a = c.args in
    let lent : Buffers = buffers_back a.image.now a.ram.now a.paper.now a.journal.now a.index.now in
    let keeps = sym (ap (λ (v : Verdict). v.keeps) c.judged-verdict.ensures) ∙ not-false _ c.if-not-verdict.false in
    rw (all_passed lent c.if-image-ne-IMAGE.false keeps) c.tried.ensures
