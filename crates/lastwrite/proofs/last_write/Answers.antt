-- `lastwrite::last_write` meets its contract: rows 1, 3 and 4 first, then the rest.
use Rattle.std.proofs.Common.{sym, ◌∙◌}
use Rattle.std.proofs.lemmas.Result.{err_from_is_err_and}
use Rattle.turn.specs.Buffers.{Buffers, buffers_back}
use Rattle.lastwrite.proofs.Answers.{buffers_failed, buffers_passed}
use Rattle.lastwrite.proofs.last_write.Goals as goal

pub with_image-requires : goal.with_image-requires
with_image-requires c = sym c.buffers_test.ensures ∙ c.in_ok-buffers_test.was

pub returns-in_err-buffers_test : goal.returns-in_err-buffers_test
returns-in_err-buffers_test c =
    let a = c.args in
    let lent : Buffers = buffers_back a.image.now a.ram.now a.paper.now a.journal.now a.index.now in
    let p = err_from_is_err_and c.from_residual.result c.from_residual.ensures.1 in
    rw (p.1, p.2) (buffers_failed lent a.address a.answer.now (sym c.buffers_test.ensures ∙ c.in_err-buffers_test.was))

pub returns : goal.returns
returns c =
    let a = c.args in
    let lent : Buffers = buffers_back a.image.now a.ram.now a.paper.now a.journal.now a.index.now in
    buffers_passed lent a.address a.answer.now (sym c.buffers_test.ensures ∙ c.in_ok-buffers_test.was) c.with_image.ensures
