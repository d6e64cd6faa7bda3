-- `seek::oldest` meets its contract. The invariant is `Remaining`: no record passed is at the PC.
use Rattle.seek.proofs.Loops.{Remaining}
use Rattle.seek.proofs.oldest.Given as goal

abbrev pub invariant-loop-k : goal.invariant-loop-k
invariant-loop-k l = Remaining l.journal l.hand l.next l.pc l.k
