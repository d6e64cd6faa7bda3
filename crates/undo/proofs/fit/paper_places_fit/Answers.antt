-- `undo::fit::paper_places_fit` meets its contract. The invariant: `ok` says whether the places passed are there.
use Rattle.std.proofs.Common.{◌≡◌, refl, add-one, arith}
use Rattle.undo.specs.Fit.{paper_places_fit}
use Rattle.undo.proofs.Laws.{eighth_small}
use Rattle.undo.proofs.fit.paper_places_fit.Goals as goal

pub loop-n-init : goal.loop-n-init
loop-n-init c = (omega arith, refl)

pub overflow_mul-ok : goal.overflow_mul-ok
overflow_mul-ok c =
    let start = c in
    omega (arith, eighth_small c.loop-n.n start.args.paper (omega arith) start.requires)

pub overflow_add-ok : goal.overflow_add-ok
overflow_add-ok c =
    let start = c in
    omega (arith, eighth_small c.loop-n.n start.args.paper (omega arith) start.requires)

pub loop-n-preserved : goal.loop-n-preserved
loop-n-preserved c =
    let l = c.loop-n in
    (omega arith, rw (add-one l.n, l.invariant.1, c.has_bit.ensures))

pub returns : goal.returns
unfolding paper_places_fit
returns c =
    let l = c.loop-n in
    let all : l.n ≡ 8 = omega arith in
    rw all at l.invariant.1
