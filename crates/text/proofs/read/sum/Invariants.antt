-- `text::read::sum` meets its contract. The loop's invariant: the digits still to come, behind those before, write what all of them write.
use mathlib.Core.Path.{◌≡◌}
use Prim.Native.Nat.{◌<◌, ◌^◌}
use lib.ListN.{length, drop}
use Rattle.text.specs.Digit.{run_of, value_from, value_of}
use Rattle.text.proofs.read.sum.Given as goal

abbrev pub invariant-loop-b : goal.invariant-loop-b
invariant-loop-b l = record {
  fits : l.value < 2 ^ 64;
  same : value_from l.base l.value (drop l.b-index l.digits) ≡ value_of l.base l.digits;
  digits : run_of l.base (drop l.b-index l.digits) ≡ length (drop l.b-index l.digits);
}
