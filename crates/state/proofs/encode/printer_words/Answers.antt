-- `state::encode::printer_words` meets its contract. The invariant: the words of the printers passed are stored, and nothing else.
use mathlib.Core.Path.{◌≡◌, refl}
use Prim.Native.Nat.{suc, ◌+◌, ◌*◌, ◌<◌}
use native.Mathlib.Omega.{arith}
use lib.ListN.{length, length-set}
use Rattle.word.proofs.Lists.{store_step}
use Rattle.state.specs.Layout.{printer_words}
use Rattle.state.proofs.encode.printer_words.Goals as goal

pub loop-i-preserved : goal.loop-i-preserved
loop-i-preserved c =
    let l = c.loop-i in
    let i = l.i in
    let e1 : 5 * i + 1 ≡ suc (5 * i) = omega arith in
    let e2 : 5 * i + 2 ≡ suc (suc (5 * i)) = omega arith in
    let e3 : 5 * i + 3 ≡ suc (suc (suc (5 * i))) = omega arith in
    let e4 : 5 * i + 4 ≡ suc (suc (suc (suc (5 * i)))) = omega arith in
    let inside : i < length c.args.printers = omega arith in
    (omega arith, simp length-set l.invariant.1, rw (e1, e2, e3, e4) (rw l.invariant.2 (store_step 5 printer_words (λ x. refl) c.args.printers _ _ 0 i (5 * i) inside (omega arith))))
