-- `saved::restore_paper` meets its contract. The invariant: what is left to put back gives the whole.
use mathlib.Core.Path.{◌≡◌, refl, ◌∙◌}
use Prim.Native.Nat.{◌+◌}
use native.Mathlib.Omega.{arith}
use lib.ListN.{length}
use Rattle.printer.specs.Tick.{no_printer}
use Rattle.printer.proofs.FromBack.{one_less, taken, fronts_on}
use Rattle.printer.proofs.Undo.{put_on, put_end}
use Rattle.printer.proofs.saved.restore_paper.Goals as goal

pub loop-n-init : goal.loop-n-init
loop-n-init c =
    let whole : c.into_iter-n-iterator.result.iter.iter.rest.now ≡ c.args.printers = cc in
    let eight : length c.args.printers ≡ 8 = omega arith in
    record { counted = cc; left = rw whole (record { same = λ k h. refl }); eight = rw whole (omega arith); back = rw (whole, eight) refl }

pub loop-n-preserved : goal.loop-n-preserved
loop-n-preserved c =
    let l = c.loop-n in
    let steps = c.in-Some.ensures.steps in
    let x = c.in-Some.field-0-1.now in
    let more = l.n-iterator.iter.iter.rest.now in
    let rest = c.next.new.self.iter.iter.rest.now in
    let shorter : length more ≡ length rest + 1 = one_less no_printer x more rest c.args.printers steps.1.0 l.invariant.left in
    let place : c.in-Some.n ≡ length rest = omega arith in
    let at = taken no_printer x more rest c.args.printers steps.1.0 l.invariant.left in
    let put = rw (c.has_bit.ensures, place, at) at c.put_at.ensures in
    record {
      counted = steps.0 ∙ l.invariant.counted;
      left = fronts_on no_printer x more rest c.args.printers steps.1.0 l.invariant.left;
      eight = omega arith;
      back = put_on _ _ _ (length more) (length rest) _ _ shorter put ∙ l.invariant.back;
    }

pub returns : goal.returns
returns c =
    let l = c.loop-n in
    let none : length l.n-iterator.iter.iter.rest.now ≡ 0 = c.in-None.ensures.steps.1.0 in
    put_end _ _ _ (length l.n-iterator.iter.iter.rest.now) l.paper _ none l.invariant.back
