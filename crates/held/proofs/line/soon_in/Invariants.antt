-- `held::line::soon_in` meets its contract. The invariant: `soon` is true of the printers passed.
use Rattle.std.specs.Prelude.{◌-◌, ◌≤◌}
use Rattle.held.proofs.Soon.{WaitsTo}
use Rattle.held.proofs.line.soon_in.Given as goal

abbrev pub invariant-loop-n : goal.invariant-loop-n
invariant-loop-n l = (l.n ≤ 8) × WaitsTo l.n l.soon l.words

abbrev pub decreases-loop-n : goal.decreases-loop-n
decreases-loop-n l = 8 - l.n
