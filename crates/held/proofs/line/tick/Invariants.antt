-- `held::line::tick` meets its contract. The invariant: the printers passed have had their tick.
use Rattle.std.specs.Prelude.{◌≡◌, ◌-◌, ◌≤◌, length}
use Rattle.printer.specs.Tick.{printing, ticks}
use Rattle.held.specs.Board.{printers_in}
use Rattle.held.proofs.line.tick.Given as goal

abbrev pub invariant-loop-n : goal.invariant-loop-n
invariant-loop-n l = (l.n ≤ 8) × (length l.words ≡ 40) × (length l.paper ≡ length l.initial.paper) × (printing (printers_in l.words) l.map l.paper ≡ ticks l.n (printing (printers_in l.initial.words) l.initial.map l.initial.paper))

abbrev pub decreases-loop-n : goal.decreases-loop-n
decreases-loop-n l = 8 - l.n
