-- `saved::restore_paper` meets its contract. The invariant: what is left to put back gives the whole.
use mathlib.Core.Path.{◌≡◌}
use Prim.Native.Nat.{◌≤◌}
use lib.ListN.{length}
use Rattle.printer.specs.Tick.{no_printer}
use Rattle.printer.specs.Saved.{put_back}
use Rattle.printer.proofs.FromBack.{Fronts}
use Rattle.printer.proofs.saved.restore_paper.Given as goal

abbrev pub invariant-loop-n : goal.invariant-loop-n
invariant-loop-n l = record {
  counted : l.n-iterator.iter.count ≡ 0;
  left : Fronts no_printer l.n-iterator.iter.iter.rest.now l.fn.printers;
  eight : length l.n-iterator.iter.iter.rest.now ≤ 8;
  back : put_back l.saved.mask l.saved.bytes l.fn.printers (length l.n-iterator.iter.iter.rest.now) l.paper
      ≡ put_back l.saved.mask l.saved.bytes l.fn.printers 8 l.initial.paper;
}
