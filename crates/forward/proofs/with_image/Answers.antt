-- `forward::with_image` meets its contract: one return for each answer.
use mathlib.Core.Path.{sym, ap, ◌∙◌}
use borrow.Author.Tests.{not-true, not-false}
use Rattle.turn.specs.Buffers.{Buffers, buffers_of}
use Rattle.rules.specs.declared.Verdict.{Verdict}
use Rattle.forward.proofs.Running.{fits_run, bad_length, bad_rules, bad_budget, bad_index, all_passed}
use Rattle.forward.proofs.with_image.Goals as goal

pub returns-then-image-ne-IMAGE : goal.returns-then-image-ne-IMAGE
returns-then-image-ne-IMAGE c =
    let a = c.args in
    let lent : Buffers = buffers_of a.image.now a.execution.now a.bootstrap.now a.ram.now a.paper.now a.journal.now a.index.now in
    rw (bad_length lent a.budget c.if-image-ne-IMAGE.true)

pub returns-then-not-verdict : goal.returns-then-not-verdict
returns-then-not-verdict c =
    let a = c.args in
    let lent : Buffers = buffers_of a.image.now a.execution.now a.bootstrap.now a.ram.now a.paper.now a.journal.now a.index.now in
    rw (bad_rules lent a.budget c.if-image-ne-IMAGE.false (sym (ap (λ (v : Verdict). v.keeps) c.judged-verdict.ensures) ∙ not-true _ c.if-not-verdict.true))

pub returns-then-budget-gt1000000 : goal.returns-then-budget-gt1000000
returns-then-budget-gt1000000 c =
    let a = c.args in
    let lent : Buffers = buffers_of a.image.now a.execution.now a.bootstrap.now a.ram.now a.paper.now a.journal.now a.index.now in
    rw (bad_budget lent a.budget c.if-image-ne-IMAGE.false (sym (ap (λ (v : Verdict). v.keeps) c.judged-verdict.ensures) ∙ not-false _ c.if-not-verdict.false)
    c.if-budget-gt1000000.true)

pub returns-then-not-index_fits : goal.returns-then-not-index_fits
returns-then-not-index_fits c =
    let a = c.args in
    let lent : Buffers = buffers_of a.image.now a.execution.now a.bootstrap.now a.ram.now a.paper.now a.journal.now a.index.now in
    rw (bad_index lent a.budget c.if-image-ne-IMAGE.false (sym (ap (λ (v : Verdict). v.keeps) c.judged-verdict.ensures) ∙ not-false _ c.if-not-verdict.false)
    c.if-budget-gt1000000.false (sym c.index_fits.ensures ∙ c.if-not-index_fits.true))

pub done-requires : goal.done-requires
done-requires c =
    let a = c.args in
    let lent : Buffers = buffers_of a.image.now a.execution.now a.bootstrap.now a.ram.now a.paper.now a.journal.now a.index.now in
    let is = ap (λ (v : Verdict). v.machine) c.judged-verdict.ensures in
    let keeps = sym (ap (λ (v : Verdict). v.keeps) c.judged-verdict.ensures) ∙ not-false _ c.if-not-verdict.false in
    let framed = sym c.index_fits.ensures ∙ c.if-not-index_fits.false in
    record { machine_value = is; image_len = c.if-image-ne-IMAGE.false; fits = fits_run lent c.requires keeps framed is }

pub returns : goal.returns
returns c =
    let a = c.args in
    let lent : Buffers = buffers_of a.image.now a.execution.now a.bootstrap.now a.ram.now a.paper.now a.journal.now a.index.now in
    let keeps = sym (ap (λ (v : Verdict). v.keeps) c.judged-verdict.ensures) ∙ not-false _ c.if-not-verdict.false in
    let framed = sym c.index_fits.ensures ∙ c.if-not-index_fits.false in
    rw (all_passed lent a.budget c.if-image-ne-IMAGE.false keeps c.if-budget-gt1000000.false framed) c.done.ensures
