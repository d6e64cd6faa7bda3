-- `back::undoing::undo_all` meets its contract. The invariant is `Undoing`: machine, RAM, paper and index are where undoing the records passed leads.
use mathlib.Core.Path.{◌≡◌}
use Rattle.step.specs.World.{world_in}
use Rattle.back.proofs.Turns.{Undoing}
use Rattle.back.proofs.undoing.undo_all.Given as goal

abbrev pub invariant-loop-j : goal.invariant-loop-j
invariant-loop-j l =
    Undoing l.journal l.next l.hand l.k (world_in l.initial.here l.initial.ram l.initial.paper) l.initial.index (world_in l.here l.ram l.paper) l.index l.j × (l.here.journal ≡ l.initial.here.journal)
