-- What the first n disks' ticks leave: the disks passed have had their tick, the others are as they were, with their bytes. What is so of every line of devices is
-- `device`'s.
use Prim.Native.Nat.{ℕ, zero, suc, ◌≤◌, ◌<◌}
use mathlib.Core.Path.{◌≡◌, refl, ap, ◌∙◌}
use mathlib.Core.Bool.{true, cond}
use mathlib.Core.List.{List, []}
use native.Mathlib.Omega.{arith}
use lib.ListN.{length, get_or, set, length-set}
use lib.Seq.{get_or-set_other}
use Rattle.word.specs.Map.{bit}
use Rattle.device.specs.Line.{ticked_to, pending_to}
use Rattle.device.proofs.Passed as device
use Rattle.disk.specs.declared.Disk.{Disk}
use Rattle.disk.specs.Tick.{no_disk, finishes, disk_ticked, ram_ticked, bytes_ticked}
use Rattle.disk.proofs.Given.{length_ram}
use Rattle.disks.specs.Tick.{Spinning, turn_of, tick_one, ticks}

module _ (s : Spinning) where
  -- disk n before any tick, and its bytes
  abbrev pub old : ℕ → Disk
  old n = get_or s.line.disks n no_disk

  abbrev pub store : ℕ → List ℕ
  store n = get_or s.stores n []

  -- ---- the line is a line of devices

  pub disks_told : (n : ℕ) → (ticks n s).line.disks ≡ ticked_to no_disk disk_ticked n s.line.disks
  unfolding ticks tick_one turn_of ticked_to
  disks_told zero = refl
  disks_told (suc n) = rw (disks_told n)

  pub pending_told : (n : ℕ) → (ticks n s).line.pending ≡ pending_to no_disk finishes disk_ticked n s.line.disks s.line.pending
  unfolding ticks tick_one turn_of pending_to
  pending_told zero = refl
  pending_told (suc n) = rw (disks_told n, pending_told n)

  pub length_disks : (n : ℕ) → length (ticks n s).line.disks ≡ length s.line.disks
  length_disks n = ap length (disks_told n) ∙ device.length_to no_disk disk_ticked s.line.disks n

  -- a disk not passed yet is as it was
  pub not_passed : (n m : ℕ) → n ≤ m → get_or (ticks n s).line.disks m no_disk ≡ old m
  not_passed n m h = ap (λ (l : List Disk). get_or l m no_disk) (disks_told n) ∙ device.not_passed no_disk disk_ticked s.line.disks n m h

  -- a disk passed has had its tick
  pub passed : (n m : ℕ) → m < n → m < length s.line.disks → get_or (ticks n s).line.disks m no_disk ≡ disk_ticked (old m)
  passed n m h l = ap (λ (l : List Disk). get_or l m no_disk) (disks_told n) ∙ device.passed no_disk disk_ticked s.line.disks n m h l

  -- the pending bit of a disk passed is on where it finished
  pub pending_passed : (n m : ℕ) → m < n → bit m (ticks n s).line.pending ≡ cond (finishes (old m)) true (bit m s.line.pending)
  pending_passed n m h = ap (bit m) (pending_told n) ∙ device.pending_passed no_disk disk_ticked s.line.disks finishes s.line.pending n m h

  -- ---- RAM and the disks' bytes

  pub length_ticks : (n : ℕ) → length (ticks n s).ram ≡ length s.ram
  unfolding ticks tick_one turn_of
  length_ticks zero = refl
  length_ticks (suc n) = length_ram _ (ticks n s).ram _ ∙ length_ticks n

  pub length_stores : (n : ℕ) → length (ticks n s).stores ≡ length s.stores
  unfolding ticks tick_one turn_of
  length_stores zero = refl
  length_stores (suc n) = length-set (ticks n s).stores n _ ∙ length_stores n

  pub store_waits : (n m : ℕ) → n ≤ m → get_or (ticks n s).stores m [] ≡ store m
  unfolding ticks tick_one turn_of
  store_waits zero m h = refl
  store_waits (suc n) m h =
      get_or-set_other (ticks n s).stores n m _ [] (λ e. omega arith) ∙ store_waits n m (omega arith)

  -- one tick more
  pub ram_on : (n : ℕ) → (ticks (suc n) s).ram ≡ ram_ticked (old n) (ticks n s).ram (store n)
  unfolding ticks tick_one turn_of
  ram_on n = rw (not_passed n n (omega arith), store_waits n n (omega arith))

  pub stores_on : (n : ℕ) → (ticks (suc n) s).stores ≡ set (ticks n s).stores n (bytes_ticked (old n) (ticks n s).ram (store n))
  unfolding ticks tick_one turn_of
  stores_on n = rw (not_passed n n (omega arith), store_waits n n (omega arith))
