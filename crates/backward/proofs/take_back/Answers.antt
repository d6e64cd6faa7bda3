-- `backward::take_back` meets its contract: rows 1, 3 and 4 first, then the rest.
use mathlib.Core.Path.{sym, ◌∙◌}
use Rattle.std.proofs.lemmas.Result.{err_from_is_err_and}
use Rattle.backward.specs.Back.{back_leaves}
use Rattle.backward.proofs.take_back.Goals as goal

pub with_image-requires : goal.with_image-requires
with_image-requires c = sym c.buffers_test.ensures ∙ c.in_ok-buffers_test.was

pub returns-in_err-buffers_test : goal.returns-in_err-buffers_test
unfolding back_leaves
returns-in_err-buffers_test c =
    let p = err_from_is_err_and c.from_residual.result c.from_residual.ensures.1 in
    rw (p.1, p.2, sym c.buffers_test.ensures ∙ c.in_err-buffers_test.was)

pub returns : goal.returns
unfolding back_leaves
returns c = rw (sym c.buffers_test.ensures ∙ c.in_ok-buffers_test.was) c.with_image.ensures
