-- `reset::fresh_printers` meets its contract. The invariant: the printers passed are fresh, and the rest is as it was.
use mathlib.Core.Path.{◌≡◌}
use mathlib.Core.List.{◌++◌}
use Prim.Native.Nat.{ℕ, ◌-◌, ◌≤◌}
use lib.ListN.{drop}
use Rattle.word.specs.Lists.{tabulate}
use Rattle.word.specs.Map.{bit}
use Rattle.reset.specs.Reset.{fresh_printer}
use Rattle.reset.proofs.fresh_printers.Given as goal

abbrev pub invariant-loop-k : goal.invariant-loop-k
invariant-loop-k l =
    (l.k ≤ 8) × (l.printer-items ≡ tabulate l.k (λ (i : ℕ). fresh_printer (bit i l.installed)) ++ drop l.k l.initial.printer-items)

abbrev pub decreases-loop-k : goal.decreases-loop-k
decreases-loop-k l = 8 - l.k
