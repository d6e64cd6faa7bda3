-- `lastwrite::with_image` meets its contract: one return for each answer.
use Rattle.std.proofs.Common.{sym, ap, ◌∙◌}
use borrow.Author.Tests.{not-true, not-false}
use Rattle.rules.specs.declared.Verdict.{Verdict}
use Rattle.turn.specs.Buffers.{Buffers, buffers_back}
use Rattle.backward.proofs.Backing.{bad_length, bad_rules, all_passed}
use Rattle.lastwrite.proofs.Answers.{fits_is, rules_failed, rules_passed}
use Rattle.lastwrite.proofs.with_image.Goals as goal

pub returns-then-image-ne-IMAGE : goal.returns-then-image-ne-IMAGE
returns-then-image-ne-IMAGE c =
    let a = c.args in
    let lent : Buffers = buffers_back a.image.now a.ram.now a.paper.now a.journal.now a.index.now in
    rules_failed lent a.address a.answer.now (bad_length lent c.if-image-ne-IMAGE.true)

pub returns-then-not-verdict : goal.returns-then-not-verdict
returns-then-not-verdict c =
    let a = c.args in
    let lent : Buffers = buffers_back a.image.now a.ram.now a.paper.now a.journal.now a.index.now in
    let breaks = sym (ap (λ (v : Verdict). v.keeps) c.judged-verdict.ensures) ∙ not-true _ c.if-not-verdict.true in
    rules_failed lent a.address a.answer.now (bad_rules lent c.if-image-ne-IMAGE.false breaks)

pub tried-requires : goal.tried-requires
tried-requires c =
    let a = c.args in
    let lent : Buffers = buffers_back a.image.now a.ram.now a.paper.now a.journal.now a.index.now in
    let keeps = sym (ap (λ (v : Verdict). v.keeps) c.judged-verdict.ensures) ∙ not-false _ c.if-not-verdict.false in
    fits_is lent c.requires keeps (ap (λ (v : Verdict). v.machine) c.judged-verdict.ensures)

pub returns : goal.returns
returns c =
    let a = c.args in
    let lent : Buffers = buffers_back a.image.now a.ram.now a.paper.now a.journal.now a.index.now in
    let is = ap (λ (v : Verdict). v.machine) c.judged-verdict.ensures in
    let keeps = sym (ap (λ (v : Verdict). v.keeps) c.judged-verdict.ensures) ∙ not-false _ c.if-not-verdict.false in
    rules_passed lent a.address a.answer.now (all_passed lent c.if-image-ne-IMAGE.false keeps) is c.tried.ensures
