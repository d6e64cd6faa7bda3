-- `lastwrite::tried` meets its contract: one return for each answer.
use Rattle.std.proofs.Common.{sym, ◌∙◌, subst}
use Rattle.std.proofs.lemmas.Result.{err_from_is_err_and}
use Rattle.turn.specs.Buffers.{Beside, beside_back}
use Rattle.lastwrite.specs.LastWrite.{Counted}
use Rattle.lastwrite.proofs.Answers.{asked_near, asked_room, found_counted, leaves_same, leaves_all}
use Rattle.lastwrite.proofs.tried.Goals as goal

pub found_by-requires : goal.found_by-requires
found_by-requires c =
    let a = c.args in
    let lent : Beside = beside_back a.ram.now a.paper.now a.journal.now a.index.now in
    asked_near a.machine lent a.address _ c.requires (sym c.asked_test.ensures ∙ c.in_ok-asked_test.was)

pub put_found-requires : goal.put_found-requires
put_found-requires c =
    let a = c.args in
    let lent : Beside = beside_back a.ram.now a.paper.now a.journal.now a.index.now in
    record {
      counted = subst Counted (sym c.found_by.ensures) (found_counted a.machine a.ram.now a.journal.now a.address);
      answer_len = asked_room a.machine lent a.address _ (sym c.asked_test.ensures ∙ c.in_ok-asked_test.was);
    }

pub returns-in_err-asked_test : goal.returns-in_err-asked_test
returns-in_err-asked_test c =
    let p = err_from_is_err_and c.from_residual.result c.from_residual.ensures.1 in
    rw (p.1, p.2) (leaves_all _ _ _ (sym c.asked_test.ensures ∙ c.in_err-asked_test.was))

pub returns : goal.returns
returns c = leaves_same (sym (sym c.asked_test.ensures ∙ c.in_ok-asked_test.was)) c.time.ensures c.found_by.ensures c.put_found.ensures
