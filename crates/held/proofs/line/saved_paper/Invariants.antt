-- `held::line::saved_paper` meets its contract. The invariant: the map and the bytes of the printers passed are made.
use Rattle.std.specs.Prelude.{◌≡◌, ◌-◌, ◌≤◌, ◌++◌, drop}
use Rattle.word.specs.Lists.{tabulate}
use Rattle.printer.specs.Tick.{room_of}
use Rattle.printer.specs.Saved.{printing_map, saved_byte}
use Rattle.held.specs.Board.{printers_in}
use Rattle.held.proofs.line.saved_paper.Given as goal

abbrev pub invariant-loop-n : goal.invariant-loop-n
invariant-loop-n l =
    (l.n ≤ 8) × (l.mask ≡ printing_map (room_of l.paper) (printers_in l.words) l.n) × (l.bytes ≡ tabulate l.n (saved_byte (printers_in l.words) l.paper) ++ drop l.n l.initial.bytes)

abbrev pub decreases-loop-n : goal.decreases-loop-n
decreases-loop-n l = 8 - l.n
