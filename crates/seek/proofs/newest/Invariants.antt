-- `seek::newest` meets its contract. The invariant is `Passed`: no record passed is at the PC.
use Rattle.seek.proofs.Loops.{Passed}
use Rattle.seek.proofs.newest.Given as goal

abbrev pub invariant-loop-k : goal.invariant-loop-k
invariant-loop-k l = Passed l.journal l.hand l.next l.pc l.k
