-- `held::line::wait` meets its contract. The invariant: the printers passed have had their tick, and those ahead are as they were.
use Rattle.std.specs.Prelude.{◌≡◌, ℕ, ◌-◌, ◌≤◌, List, length}
use Rattle.printer.specs.Tick.{printing, ticks}
use Rattle.held.specs.Board.{printers_in}
use Rattle.held.proofs.line.wait.Given as goal

abbrev pub invariant-loop-n : goal.invariant-loop-n
invariant-loop-n l =
    (l.n ≤ 8) × (length l.words ≡ 40)
    × ((pending : ℕ) (paper : List ℕ) → printing (printers_in l.words) pending paper ≡ ticks l.n (printing (printers_in l.initial.words) pending paper))

abbrev pub decreases-loop-n : goal.decreases-loop-n
decreases-loop-n l = 8 - l.n
