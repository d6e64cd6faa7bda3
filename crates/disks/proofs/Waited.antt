-- Waiting: a disk of the line after some ticks is that disk after as many ticks of its own (`disk`, proofs/Delay says when it ends).
use Prim.Native.Nat.{ℕ, zero, suc, ◌<◌}
use mathlib.Core.Path.{◌≡◌, refl, ◌∙◌}
use lib.ListN.{length, get_or}
use Rattle.disk.specs.Tick.{no_disk}
use Rattle.disk.proofs.Delay.{after_ticks}
use Rattle.disks.specs.Tick.{Spinning, waited_of}
use Rattle.disks.proofs.Passed.{old, length_disks, passed}

waited_eight : (s : Spinning) (k : ℕ) → length (waited_of k s).line.disks ≡ length s.line.disks
unfolding waited_of
waited_eight s zero = refl
waited_eight s (suc k) = length_disks (waited_of k s) 8 ∙ waited_eight s k

pub waited : (s : Spinning) (n k : ℕ) → n < 8 → length s.line.disks ≡ 8 → get_or (waited_of k s).line.disks n no_disk ≡ after_ticks k (old s n)
unfolding waited_of
waited s n zero h eight = refl
waited s n (suc k) h eight =
    let before = waited_of k s in
    let inside : n < length before.line.disks = rw (waited_eight s k, eight) h in
    passed before 8 n h inside ∙ rw (waited s n k h eight)
