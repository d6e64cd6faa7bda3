-- A tick of the disks is taken back: what was kept before the step, given back after it, the last disk first, gives all as it was. Every saved byte is that
-- before the step, so that it does not matter which of two disks on the same RAM bytes is given back first, nor that a store of the step changed them too.
use Prim.Native.Nat.{ℕ, zero, suc, ◌≤◌, ◌<◌}
use mathlib.Core.Path.{◌≡◌, refl, sym, ap, ◌∙◌}
use mathlib.Core.Bool.{Bool, true, false, cond}
use mathlib.Core.List.{List, []}
use native.Mathlib.Decide.{ℕ_discrete}
use native.Mathlib.Omega.{arith}
use lib.ListN.{length, get_or, set, length-set}
use lib.Seq.{set-set, set-get_or, get_or-set_same, get_or-set_other}
use Rattle.word.specs.Lists.{tabulate}
use Rattle.word.proofs.Lists.{get_d_tabulate, tabulate_ext, tabulate_get_d}
use Rattle.disk.specs.declared.Disk.{Disk}
use Rattle.disk.specs.declared.four.Four.{Four}
use Rattle.disk.specs.Four.{four_at, put_four}
use Rattle.disk.specs.Tick.{no_disk, reads, ram_place, disk_place, ram_ticked, bytes_ticked}
use Rattle.disk.specs.Saved.{no_kept, given_back}
use Rattle.disk.proofs.Fours.{length_put, put_over, fix_four, fours_swap, four_stays}
use Rattle.disk.proofs.Given.{disk_back, ram_given, bytes_back_lem}
use Rattle.disks.specs.Tick.{Spinning, spinning, ticks, ticked_of}
use Rattle.disks.specs.Saved.{kept_at, note_of, back_of, back_one, backs, with_pending, undo_of}
use Rattle.disks.proofs.Passed.{old, store, length_ticks, length_disks, length_stores, passed, store_waits, ram_on, stores_on}

-- eight disks are known one by one
same_eight : (k l : List Disk) → length k ≡ 8 → length l ≡ 8 → ((m : ℕ) → m < 8 → get_or k m no_disk ≡ get_or l m no_disk) → k ≡ l
same_eight k l a b h =
    sym (tabulate_get_d k no_disk)
    ∙ ap (λ (n : ℕ). tabulate n (λ (i : ℕ). get_or k i no_disk)) a
    ∙ tabulate_ext 8 (λ (i : ℕ). get_or k i no_disk) (λ (i : ℕ). get_or l i no_disk) h
    ∙ ap (λ (n : ℕ). tabulate n (λ (i : ℕ). get_or l i no_disk)) (sym b)
    ∙ tabulate_get_d l no_disk

module _ (s : Spinning) where
  -- whether disk n reads in this step
  abbrev reading : ℕ → Bool
  reading n = reads (length s.ram) (length (store s n)) (old s n)

  -- its four bytes of RAM as they were before the step
  abbrev fix_one : ℕ → List ℕ → List ℕ
  fix_one n ram = cond (reading n) (fix_four s.ram (ram_place (old s n)) ram) ram

  abbrev pub fix_ram : ℕ → List ℕ → List ℕ
  fix_ram zero ram = ram
  fix_ram (suc n) ram = fix_ram n (fix_one n ram)

  -- four bytes put back before those of the disks are four bytes put back after them
  pub fixes_swap : (n at : ℕ) (ram : List ℕ) → fix_ram n (fix_four s.ram at ram) ≡ fix_four s.ram at (fix_ram n ram)
  fixes_swap zero at ram = refl
  fixes_swap (suc n) at ram = ap (fix_ram n) (one (reading n)) ∙ fixes_swap n at (fix_one n ram)
    where
      one : (on : Bool) →
          cond on (fix_four s.ram (ram_place (old s n)) (fix_four s.ram at ram)) (fix_four s.ram at ram)
          ≡ fix_four s.ram at (cond on (fix_four s.ram (ram_place (old s n)) ram) ram)
      one true = fours_swap s.ram ram (ram_place (old s n)) at
      one false = refl

  ram_told : (n : ℕ) → (ticks (suc n) s).ram ≡ cond (reading n) (put_four (ticks n s).ram (ram_place (old s n)) (four_at (store s n) (disk_place (old s n)))) (ticks n s).ram
  unfolding ram_ticked
  ram_told n = ram_on s n ∙ rw (length_ticks s n)

  -- every disk's bytes put back give RAM as it was
  pub ram_back_lem : (n : ℕ) → fix_ram n (ticks n s).ram ≡ s.ram
  unfolding ticks
  ram_back_lem zero = refl
  ram_back_lem (suc n) = ap (λ (ram : List ℕ). fix_ram n (fix_one n ram)) (ram_told n) ∙ one (ram_back_lem n) (reading n)
    where
      one : fix_ram n (ticks n s).ram ≡ s.ram → (on : Bool) →
          fix_ram n (cond on (fix_four s.ram (ram_place (old s n)) (cond on (put_four (ticks n s).ram (ram_place (old s n)) (four_at (store s n) (disk_place (old s n)))) (ticks n s).ram))
          (cond on (put_four (ticks n s).ram (ram_place (old s n)) (four_at (store s n) (disk_place (old s n)))) (ticks n s).ram))
          ≡ s.ram
      one before false = before
      one before true =
          ap (fix_ram n) (put_over (ticks n s).ram (ram_place (old s n)) (four_at (store s n) (disk_place (old s n))) (four_at s.ram (ram_place (old s n))))
          ∙ fixes_swap n (ram_place (old s n)) (ticks n s).ram
          ∙ ap (fix_four s.ram (ram_place (old s n))) before
          ∙ four_stays s.ram (ram_place (old s n))

  length_fix : (n : ℕ) (ram : List ℕ) → length (fix_one n ram) ≡ length ram
  length_fix n ram = go (reading n)
    where
      go : (on : Bool) → length (cond on (fix_four s.ram (ram_place (old s n)) ram) ram) ≡ length ram
      go true = length_put ram (ram_place (old s n)) (four_at s.ram (ram_place (old s n)))
      go false = refl

  -- ---- the disks

  -- what a disk has become, given back, is the disk before the step
  abbrev pub Back : ℕ → Disk → Type 0
  Back n d = given_back (kept_at s n) d ≡ old s n

  module _ (stores_eight : length s.stores ≡ 8) where
    -- the bytes of disk n, as its tick left them, and put back at their place
    store_there : (n : ℕ) → n < 8 → get_or (ticks (suc n) s).stores n [] ≡ bytes_ticked (old s n) (ticks n s).ram (store s n)
    store_there n h =
        let inside : n < length (ticks n s).stores = rw (length_stores s n, stores_eight) h in
        rw (stores_on s n) (get_or-set_same (ticks n s).stores n (bytes_ticked (old s n) (ticks n s).ram (store s n)) [] inside)

    stores_before : (n : ℕ) → set (ticks (suc n) s).stores n (store s n) ≡ (ticks n s).stores
    stores_before n =
        rw (stores_on s n, set-set (ticks n s).stores n (bytes_ticked (old s n) (ticks n s).ram (store s n)) (store s n), ← store_waits s n n (omega arith))
        (set-get_or (ticks n s).stores n [])

    abbrev part : ℕ → List Disk → ℕ → List ℕ → Spinning
    part n disks pending ram = spinning (record { disks = disks; pending = pending }) ram (ticks n s).stores

    one_undone : (n : ℕ) (disks : List Disk) (pending : ℕ) (ram : List ℕ) → n < 8 → length ram ≡ length s.ram → Back n (get_or disks n no_disk) →
        back_one n (kept_at s n) (part (suc n) disks pending ram) ≡ part n (set disks n (old s n)) pending (fix_one n ram)
    unfolding back_one back_of
    one_undone n disks pending ram h r back =
        rw (
          back,
          store_there n h,
          ram_given (old s n) s.ram (store s n) ram r,
          bytes_back_lem (old s n) s.ram (store s n) (ticks n s).ram (length_ticks s n),
          stores_before n,
        )

    module _ (disks_eight : length s.line.disks ≡ 8) where
      all_undone : (n : ℕ) (disks : List Disk) (pending : ℕ) (ram : List ℕ) → n ≤ 8 → length disks ≡ 8 → length ram ≡ length s.ram →
          ((m : ℕ) → m < n → Back m (get_or disks m no_disk)) → ((m : ℕ) → n ≤ m → m < 8 → get_or disks m no_disk ≡ old s m) →
          backs n (note_of s).kept (part n disks pending ram) ≡ spinning (record { disks = s.line.disks; pending = pending }) (fix_ram n ram) s.stores
      unfolding backs ticks
      all_undone zero disks pending ram h l r back done =
          ap (λ (l : List Disk). spinning (record { disks = l; pending = pending }) ram s.stores)
          (same_eight disks s.line.disks l disks_eight (λ m few. done m (omega arith) few))
      all_undone (suc n) disks pending ram h l r back done =
          rw (get_d_tabulate 8 (kept_at s) n no_kept (omega arith))
          (ap (backs n (note_of s).kept) (one_undone n disks pending ram (omega arith) r (back n (omega arith)))
          ∙ all_undone n (set disks n (old s n)) pending (fix_one n ram) (omega arith) (length-set disks n (old s n) ∙ l) (length_fix n ram ∙ r)
          (λ m less. ap (given_back (kept_at s m)) (get_or-set_other disks n m (old s n) no_disk (λ e. omega arith)) ∙ back m (omega arith))
          (λ m more few. given m more few (ℕ_discrete m n)))
        where
          given : (m : ℕ) → n ≤ m → m < 8 → Dec (m ≡ n) → get_or (set disks n (old s n)) m no_disk ≡ old s m
          given m more few (yes e) = let inside : n < length disks = omega arith in rw e (get_or-set_same disks n (old s n) no_disk inside)
          given m more few (no ne) = get_or-set_other disks n m (old s n) no_disk ne ∙ done m (omega (arith, ne)) few

      -- Whatever else the step did to the pending map, to RAM where it is put right, and to a disk that is given back: the note gives all back.
      pub undo_after : (disks : List Disk) (pending : ℕ) (ram : List ℕ) → length disks ≡ 8 → ((m : ℕ) → m < 8 → Back m (get_or disks m no_disk)) →
          length ram ≡ length s.ram → fix_ram 8 ram ≡ s.ram →
          undo_of (note_of s) (spinning (record { disks = disks; pending = pending }) ram (ticked_of s).stores) ≡ s
      unfolding undo_of
      undo_after disks pending ram l back r e =
          ap (with_pending s.line.pending) (all_undone 8 disks pending ram (omega arith) l r back (λ m more few. absurd (omega arith)))
          ∙ ap (λ (ram : List ℕ). spinning s.line ram s.stores) e

      pub ticked_back : (m : ℕ) → m < 8 → Back m (get_or (ticked_of s).line.disks m no_disk)
      ticked_back m h =
          let inside : m < length s.line.disks = rw disks_eight h in
          ap (given_back (kept_at s m)) (passed s 8 m h inside) ∙ disk_back (old s m) s.ram (store s m)

      pub ticked_eight : length (ticked_of s).line.disks ≡ 8
      ticked_eight = length_disks s 8 ∙ disks_eight

      -- The tick of all eight is taken back.
      pub undo_tick : undo_of (note_of s) (ticked_of s) ≡ s
      undo_tick =
          undo_after (ticked_of s).line.disks (ticked_of s).line.pending (ticked_of s).ram ticked_eight ticked_back (length_ticks s 8) (ram_back_lem 8)

      -- A store to RAM of the same step, too: the four bytes of its word as they were before the step are put back first.
      pub undo_store : (at : ℕ) (word : Four) →
          undo_of (note_of s)
          (spinning (ticked_of s).line (put_four (put_four (ticked_of s).ram at word) at (four_at s.ram at)) (ticked_of s).stores)
          ≡ s
      undo_store at word =
          let over = put_over (ticked_of s).ram at word (four_at s.ram at) in
          undo_after (ticked_of s).line.disks (ticked_of s).line.pending (put_four (put_four (ticked_of s).ram at word) at (four_at s.ram at)) ticked_eight ticked_back
          (ap length over ∙ length_put (ticked_of s).ram at (four_at s.ram at) ∙ length_ticks s 8)
          (ap (fix_ram 8) over ∙ fixes_swap 8 at (ticked_of s).ram ∙ ap (fix_four s.ram at) (ram_back_lem 8) ∙ four_stays s.ram at)
