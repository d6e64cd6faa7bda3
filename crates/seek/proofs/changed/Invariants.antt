-- `seek::changed` meets its contract. The invariant is `Scanned`: the records passed left the word as it is.
use Rattle.seek.proofs.Loops.{Scanned}
use Rattle.seek.proofs.changed.Given as goal

abbrev pub invariant-loop-k : goal.invariant-loop-k
invariant-loop-k l = Scanned l.journal l.hand l.next l.place l.present l.k
