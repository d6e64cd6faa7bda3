-- `remote::sum::sum` meets its contract. The loop's invariant: the total is the checksum of the bytes so far.
use mathlib.Core.Path.{◌≡◌}
use lib.ListN.{take}
use Rattle.remote.specs.Sum.{sum_of}
use Rattle.remote.proofs.sum.sum.Given as goal

abbrev pub invariant-loop-b : goal.invariant-loop-b
invariant-loop-b l = l.total ≡ sum_of (take l.b-index l.bytes)
