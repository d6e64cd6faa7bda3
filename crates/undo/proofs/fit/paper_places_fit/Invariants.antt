-- `undo::fit::paper_places_fit` meets its contract. The invariant: `ok` says whether the places passed are there.
use Rattle.std.proofs.Common.{◌≡◌, ◌≤◌}
use Rattle.word.specs.Lists.{every}
use Rattle.undo.specs.Fit.{paper_place_fits}
use Rattle.undo.proofs.fit.paper_places_fit.Given as goal

abbrev pub invariant-loop-n : goal.invariant-loop-n
invariant-loop-n l = (l.n ≤ 8) × (l.ok ≡ every l.n (paper_place_fits l.mask l.p-items l.paper))
