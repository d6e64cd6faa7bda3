-- `words::packed` meets its contract. The invariant: the words of the disks passed are stored, and nothing else.
use mathlib.Core.Path.{◌≡◌, refl, ◌∙◌}
use Prim.Native.Nat.{◌<◌}
use native.Mathlib.Omega.{arith}
use lib.ListN.{length}
use lib.Seq.{take-length}
use Rattle.word.specs.Lists.{flat}
use Rattle.word.proofs.Lists.{sets_whole, store_step}
use Rattle.disks.specs.Words.{disk_words}
use Rattle.disks.proofs.Packed.{seven_words, length_held}
use Rattle.disks.proofs.words.packed.Goals as goal

pub loop-n-init : goal.loop-n-init
loop-n-init c = (omega arith, refl)

pub loop-n-preserved : goal.loop-n-preserved
loop-n-preserved c =
    let l = c.loop-n in
    let start = c in
    let ds = start.args.disks in
    let inside : l.n < length ds = omega arith in (
      omega arith,
      c.put_disk.ensures ∙ rw l.invariant.1 (store_step 7 disk_words seven_words ds _ _ 0 l.n _ inside (omega arith)),
    )

pub returns : goal.returns
returns c =
    let l = c.loop-n in
    let start = c in
    let ds = start.args.disks in
    let all : l.n ≡ length ds = omega arith in
    let eight : length ds ≡ 8 = omega arith in
    l.invariant.1 ∙ rw (all, take-length ds) (sets_whole _ (flat disk_words ds) (length_held ds eight))
