-- `tlb::doubled::doubled` meets its contract. The loop's invariant: the look at the whole table is the look from entry i on.
use mathlib.Core.Path.{◌≡◌}
use lib.ListN.{drop}
use Rattle.tlb.specs.Doubled.{doubled_in}
use Rattle.tlb.proofs.doubled.doubled.Given as goal

abbrev pub invariant-loop-i : goal.invariant-loop-i
invariant-loop-i l = doubled_in l.fn.t ≡ doubled_in (drop l.i l.row-items)
