-- `back::fitting::all_fit` meets its contract. The invariant is `Checked`: the records passed are well formed, and the machine is where undoing them leads.
use Rattle.back.specs.Back.{view_in}
use Rattle.back.proofs.Turns.{Checked}
use Rattle.back.proofs.fitting.all_fit.Given as goal

abbrev pub invariant-loop-j : goal.invariant-loop-j
invariant-loop-j l = Checked l.journal l.next l.k (view_in l.initial.here l.ram l.paper) (view_in l.here l.ram l.paper) l.j
