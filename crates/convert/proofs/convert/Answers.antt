-- `convert::convert` meets its contract: one return for each answer.
use mathlib.Core.Path.{sym, ap, ◌∙◌}
use native.Mathlib.Omega.{arith}
use borrow.Author.Tests.{not-true, not-false}
use lib.ListN.{length}
use Rattle.state.specs.Layout.{bytes_of}
use Rattle.rules.specs.declared.Verdict.{Verdict}
use Rattle.answer.specs.declared.Refusal.TheVariants.{Paper, Journal, Image}
use Rattle.convert.specs.Convert.{emptied}
use Rattle.convert.proofs.Answers.{says_bad_paper, says_bad_journal, says_bad_old, says_bad_new, says_bad_rules, says_done, refused_is, done_is}
use Rattle.convert.proofs.convert.Goals as goal

pub returns-then-not-paper_fits : goal.returns-then-not-paper_fits
returns-then-not-paper_fits c =
    let a = c.args in
    refused_is a.old.now a.image.now (length a.paper.now) (length a.journal.now) Paper
    (says_bad_paper a.old.now a.image.now (length a.paper.now) (length a.journal.now) (sym c.paper_fits.ensures ∙ c.if-not-paper_fits.true))

pub returns-then-not-journal_before : goal.returns-then-not-journal_before
returns-then-not-journal_before c =
    let a = c.args in
    refused_is a.old.now a.image.now (length a.paper.now) (length a.journal.now) Journal
    (says_bad_journal a.old.now a.image.now (length a.paper.now) (length a.journal.now) (sym c.paper_fits.ensures ∙ c.if-not-paper_fits.false)
    (sym c.journal_before.ensures ∙ c.if-not-journal_before.true))

pub returns-then-old-ne-OLD : goal.returns-then-old-ne-OLD
returns-then-old-ne-OLD c =
    let a = c.args in
    refused_is a.old.now a.image.now (length a.paper.now) (length a.journal.now) Image
    (says_bad_old a.old.now a.image.now (length a.paper.now) (length a.journal.now) (sym c.paper_fits.ensures ∙ c.if-not-paper_fits.false)
    (sym c.journal_before.ensures ∙ c.if-not-journal_before.false) c.if-old-ne-OLD.true)

pub returns-then-image-ne-IMAGE : goal.returns-then-image-ne-IMAGE
returns-then-image-ne-IMAGE c =
    let a = c.args in
    refused_is a.old.now a.image.now (length a.paper.now) (length a.journal.now) Image
    (says_bad_new a.old.now a.image.now (length a.paper.now) (length a.journal.now) (sym c.paper_fits.ensures ∙ c.if-not-paper_fits.false)
    (sym c.journal_before.ensures ∙ c.if-not-journal_before.false) (omega arith) c.if-image-ne-IMAGE.true)

pub returns-then-not-verdict : goal.returns-then-not-verdict
returns-then-not-verdict c =
    let a = c.args in
    refused_is a.old.now a.image.now (length a.paper.now) (length a.journal.now) Image
    (says_bad_rules a.old.now a.image.now (length a.paper.now) (length a.journal.now) (sym c.paper_fits.ensures ∙ c.if-not-paper_fits.false)
    (sym c.journal_before.ensures ∙ c.if-not-journal_before.false) (omega arith) (omega arith)
    (sym (ap (λ (v : Verdict). v.keeps) c.judged-verdict.ensures) ∙ not-true _ c.if-not-verdict.true))

pub returns : goal.returns
returns c =
    let a = c.args in
    done_is a.old.now a.image.now (length a.paper.now) (length a.journal.now)
    (says_done a.old.now a.image.now (length a.paper.now) (length a.journal.now) (sym c.paper_fits.ensures ∙ c.if-not-paper_fits.false)
    (sym c.journal_before.ensures ∙ c.if-not-journal_before.false) (omega arith) (omega arith)
    (sym (ap (λ (v : Verdict). v.keeps) c.judged-verdict.ensures) ∙ not-false _ c.if-not-verdict.false))
    (c.encode.ensures ∙ ap bytes_of c.emptied-m.ensures ∙ ap (λ (v : Verdict). bytes_of (emptied v.machine)) c.judged-verdict.ensures)
