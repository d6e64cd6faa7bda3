-- `reset::fresh_printers` meets its contract. The invariant: the printers passed are fresh, and the rest is as it was.
use mathlib.Core.Path.{refl}
use Prim.Native.Nat.{ℕ}
use native.Mathlib.Omega.{arith}
use Rattle.word.proofs.Lists.{fill_step, fill_end}
use Rattle.word.specs.Map.{bit}
use Rattle.reset.specs.Reset.{fresh_printer}
use Rattle.reset.proofs.fresh_printers.Goals as goal

pub loop-k-init : goal.loop-k-init
loop-k-init c = (omega arith, refl)

pub loop-k-preserved : goal.loop-k-preserved
loop-k-preserved c =
    let l = c.loop-k in
    let installed = c.args.installed in (
      omega arith,
      rw (c.fresh_printer.ensures, c.has_bit.ensures)
          (fill_step (λ (i : ℕ). fresh_printer (bit i installed)) _ l.printer-items l.k (omega arith) l.invariant.1),
    )

pub returns : goal.returns
returns c =
    let l = c.loop-k in
    let installed = c.args.installed in
    fill_end (λ (i : ℕ). fresh_printer (bit i installed)) _ l.printer-items l.k (omega arith) l.invariant.1
