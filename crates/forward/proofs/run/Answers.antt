-- `forward::run` meets its contract: rows 1 to 4 first, then the rest.
use mathlib.Core.Path.{sym, ◌∙◌}
use Rattle.std.proofs.lemmas.Result.{err_from_is_err_and}
use Rattle.forward.specs.Run.{run_leaves}
use Rattle.forward.proofs.run.Goals as goal

pub with_image-requires : goal.with_image-requires
with_image-requires c = sym c.lent_test.ensures ∙ c.in_ok-lent_test.was

pub returns-in_err-lent_test : goal.returns-in_err-lent_test
unfolding run_leaves
returns-in_err-lent_test c =
    let p = err_from_is_err_and c.from_residual.result c.from_residual.ensures.1 in
    rw (p.1, p.2, sym c.lent_test.ensures ∙ c.in_err-lent_test.was)

pub returns : goal.returns
unfolding run_leaves
returns c = rw (sym c.lent_test.ensures ∙ c.in_ok-lent_test.was) c.with_image.ensures
