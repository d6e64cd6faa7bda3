-- `state::encode::row_words` meets its contract. The invariant: the words of the rows passed are stored, and nothing else.
use mathlib.Core.Path.{◌≡◌, refl}
use Prim.Native.Nat.{suc, ◌+◌, ◌*◌, ◌<◌}
use native.Mathlib.Omega.{arith}
use lib.ListN.{length, length-set}
use Rattle.word.proofs.Lists.{store_step}
use Rattle.state.specs.Layout.{row_words}
use Rattle.state.proofs.encode.row_words.Goals as goal

pub loop-i-preserved : goal.loop-i-preserved
loop-i-preserved c =
    let l = c.loop-i in
    let i = l.i in
    let e1 : 2 * i + 1 ≡ suc (2 * i) = omega arith in
    let inside : i < length c.args.rows = omega arith in
    (omega arith, simp length-set l.invariant.1, rw (e1) (rw l.invariant.2 (store_step 2 row_words (λ x. refl) c.args.rows _ _ 0 i (2 * i) inside (omega arith))))
