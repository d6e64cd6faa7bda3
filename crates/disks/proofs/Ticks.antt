-- A tick of disks that are not busy does nothing; and what a tick leaves of the pending map.
use Prim.Native.Nat.{ℕ, zero, suc}
use mathlib.Core.Path.{◌≡◌, refl, ap, ◌∙◌}
use mathlib.Core.Bool.{false, not, ◌||◌}
use mathlib.Core.List.{List, []}
use lib.Dec.{eqb}
use lib.ListN.{get_or, set}
use lib.Seq.{set-get_or}
use Rattle.device.specs.Line.{some_of}
use Rattle.device.proofs.Passed.{neither}
use Rattle.device.proofs.Ending.{after_some}
use Rattle.disk.specs.declared.Disk.{Disk}
use Rattle.disk.specs.Tick.{no_disk, is_busy, finishes, disk_ticked, ram_ticked, bytes_ticked}
use Rattle.disks.specs.Tick.{Spinning, spinning, turn_of, tick_one, ticks, ticked_of, any_busy, any_ending}
use Rattle.disks.proofs.Passed.{pending_told}

idle_one : (n : ℕ) (s : Spinning) → is_busy (get_or s.line.disks n no_disk) ≡ false → tick_one n s ≡ s
unfolding tick_one turn_of disk_ticked ram_ticked bytes_ticked
idle_one n s e =
    rw e
    (ap (λ (l : List Disk). spinning (record { disks = l; pending = s.line.pending }) s.ram (set s.stores n (get_or s.stores n []))) (set-get_or s.line.disks n no_disk)
    ∙ ap (λ (l : List (List ℕ)). spinning s.line s.ram l) (set-get_or s.stores n []))

idle_ticks : (n : ℕ) (s : Spinning) → some_of no_disk is_busy n s.line.disks ≡ false → ticks n s ≡ s
unfolding ticks some_of
idle_ticks zero s e = refl
idle_ticks (suc n) s e =
    let h = neither (some_of no_disk is_busy n s.line.disks) (is_busy (get_or s.line.disks n no_disk)) e in
    rw (idle_ticks n s h.0) (idle_one n s h.1)

-- where no disk is busy, a tick leaves all as it is
pub idle_tick : (s : Spinning) → any_busy s.line.disks ≡ false → ticked_of s ≡ s
idle_tick s e = idle_ticks 8 s e

-- the pending map after a tick, known before it: it is not 0 exactly if it was not 0, or a disk finishes
pub pending_after : (s : Spinning) → not (eqb (ticked_of s).line.pending 0) ≡ (not (eqb s.line.pending 0) || any_ending s.line.disks)
pending_after s = rw (pending_told s 8) (after_some no_disk finishes disk_ticked s.line.disks s.line.pending 8)
