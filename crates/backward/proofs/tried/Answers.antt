-- `backward::tried` meets its contract: one return for each answer.
use mathlib.Core.Path.{sym, ap, ◌∙◌}
use Rattle.std.proofs.lemmas.Result.{err_from_is_err_and}
use Rattle.back.specs.Back.{how_of}
use Rattle.turn.specs.Buffers.{Buffers, buffers_back}
use Rattle.backward.proofs.Backing.{fits_back, tried_fault, tried_index}
use Rattle.backward.proofs.tried.Goals as goal

pub returns-in_err-asked : goal.returns-in_err-asked
returns-in_err-asked c =
    let a = c.args in
    let lent : Buffers = buffers_back a.image.now a.ram.now a.paper.now a.journal.now a.index.now in
    let p = err_from_is_err_and c.from_residual.result c.from_residual.ensures.1 in
    rw (p.1, p.2) (tried_fault lent a.steps c.requires.machine_value _ (ap how_of (sym c.in_err-asked.was) ∙ c.asked.ensures))

pub returns-then-not-index_fits : goal.returns-then-not-index_fits
returns-then-not-index_fits c =
    let a = c.args in
    let lent : Buffers = buffers_back a.image.now a.ram.now a.paper.now a.journal.now a.index.now in
    tried_index lent a.steps c.requires.machine_value (ap how_of (sym c.in_ok-asked.was) ∙ c.asked.ensures) (sym c.index_fits.ensures ∙ c.if-not-index_fits.true)

pub done-requires : goal.done-requires
done-requires c =
    let a = c.args in
    let lent : Buffers = buffers_back a.image.now a.ram.now a.paper.now a.journal.now a.index.now in
    record {
      machine_value = c.requires.machine_value;
      image_len = c.requires.image_len;
      fits = fits_back lent.beside c.requires.judged (sym c.index_fits.ensures ∙ c.if-not-index_fits.false);
      journal_value = sym c.asked.ensures ∙ ap how_of c.in_ok-asked.was;
    }
