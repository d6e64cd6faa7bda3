-- `lastwrite::asked_test` meets its contract: one return for each answer.
use Rattle.std.proofs.Common.{sym, ap, ◌∙◌}
use Rattle.std.proofs.lemmas.Result.{err_from_is_err_and}
use Rattle.back.specs.Back.{how_of}
use Rattle.turn.specs.Buffers.{Beside, beside_back}
use Rattle.lastwrite.proofs.Answers.{asked_fault, asked_rest}
use Rattle.lastwrite.proofs.asked_test.Goals as goal

pub returns-in_err-asked : goal.returns-in_err-asked
returns-in_err-asked c =
    let a = c.args in
    let lent : Beside = beside_back a.ram.now a.paper.now a.journal.now a.index.now in
    let p = err_from_is_err_and c.from_residual.result c.from_residual.ensures.1 in
    rw (p.1, p.2) (asked_fault a.machine lent a.address a.room _ (ap how_of (sym c.in_err-asked.was) ∙ c.asked.ensures))

pub returns : goal.returns
returns c =
    let a = c.args in
    let lent : Beside = beside_back a.ram.now a.paper.now a.journal.now a.index.now in
    c.rest_test.ensures ∙ asked_rest a.machine lent a.address a.room (ap how_of (sym c.in_ok-asked.was) ∙ c.asked.ensures)
