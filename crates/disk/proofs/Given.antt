-- What is kept of a disk before the step gives it back after its tick, with its bytes. Nothing is asked of the disk: one that is not busy does not tick.
use Prim.Native.Nat.{ℕ, ◌+◌, ◌-◌, ◌%◌, ◌≤◌}
use mathlib.Core.Path.{◌≡◌, refl, sym, ap, ◌∙◌}
use mathlib.Core.Bool.{Bool, true, false, ◌&&◌, cond}
use mathlib.Core.List.{List}
use native.Mathlib.Omega.{arith}
use borrow.Author.Tests.{eqb-true, eq-eqb, le-leb}
use lib.Dec.{eqb, leb}
use lib.ListN.{length}
use Rattle.word.proofs.Cond.{both}
use Rattle.disk.specs.declared.Disk.{Disk}
use Rattle.disk.specs.declared.four.Four.{Four}
use Rattle.disk.specs.declared.saved.Kept.{Kept}
use Rattle.disk.specs.Fields.{code_of, in_ram, block_of}
use Rattle.disk.specs.Four.{four_at, put_four, no_four}
use Rattle.disk.specs.Tick.{is_busy, is_last, fits, reads, writes, ram_place, disk_place, ended, fallen, disk_ticked, ram_ticked, bytes_ticked}
use Rattle.disk.specs.Saved.{work_kept, no_kept, kept_of, work_back, given_back, ram_back, bytes_back, kept_fits}
use Rattle.disk.proofs.Fours.{length_put, put_over, fix_four, four_stays}
use Rattle.disk.proofs.Places.{fitting, reads_fits, writes_fits, writes_only}

-- ---- lengths

pub length_ram : (d : Disk) (ram bytes : List ℕ) → length (ram_ticked d ram bytes) ≡ length ram
unfolding ram_ticked
length_ram d ram bytes = go (reads (length ram) (length bytes) d)
  where
    go : (on : Bool) → length (cond on (put_four ram (ram_place d) (four_at bytes (disk_place d))) ram) ≡ length ram
    go true = length_put ram (ram_place d) (four_at bytes (disk_place d))
    go false = refl

pub length_bytes : (d : Disk) (ram bytes : List ℕ) → length (bytes_ticked d ram bytes) ≡ length bytes
unfolding bytes_ticked
length_bytes d ram bytes = go (writes (length ram) (length bytes) d)
  where
    go : (on : Bool) → length (cond on (put_four bytes (disk_place d) (four_at ram (ram_place d))) bytes) ≡ length bytes
    go true = length_put bytes (disk_place d) (four_at ram (ram_place d))
    go false = refl

-- ---- the disk

-- what does not change in a tick
pub record SameWords (x d : Disk) : Type 0 where
  pub command : x.command ≡ d.command
  pub data0 : x.data0 ≡ d.data0
  pub data1 : x.data1 ≡ d.data1

pub ticked_same : (d : Disk) → SameWords (disk_ticked d) d
unfolding disk_ticked
ticked_same d = go (is_busy d) (is_last d)
  where
    go : (busy last : Bool) → SameWords (cond busy (cond last (ended d) (fallen d)) d) d
    go false last = record { command = refl; data0 = refl; data1 = refl }
    go true true = record { command = refl; data0 = refl; data1 = refl }
    go true false = record { command = refl; data0 = refl; data1 = refl }

pub idle_still : (d : Disk) → is_busy d ≡ false → disk_ticked d ≡ d
unfolding disk_ticked
idle_still d e = rw e

module _ (d : Disk) (ram bytes : List ℕ) where
  -- nothing is kept of a disk that is not at work, so it stays as it is
  pub idle_back : is_busy d ≡ false → (x : Disk) → given_back (kept_of ram bytes d) x ≡ x
  unfolding kept_of given_back
  idle_back e x = rw e

  -- of one at work
  abbrev moving : Bool → Bool → Kept
  moving r w = cond r (work_kept 2 (ram_place d) (four_at ram (ram_place d)) d) (cond w (work_kept 3 0 (four_at bytes (disk_place d)) d) (work_kept 1 0 no_four d))

  busy_kept : is_busy d ≡ true → kept_of ram bytes d ≡ moving (reads (length ram) (length bytes) d) (writes (length ram) (length bytes) d)
  unfolding kept_of
  busy_kept e = ap (λ (b : Bool). cond b (moving (reads (length ram) (length bytes) d) (writes (length ram) (length bytes) d)) no_kept) e

  -- a disk at work is given back from its words that a tick does not change
  pub busy_back : is_busy d ≡ true → (x : Disk) → SameWords x d → given_back (kept_of ram bytes d) x ≡ d
  unfolding given_back
  busy_back e x same =
      ap (λ (k : Kept). given_back k x) (busy_kept e) ∙ go (reads (length ram) (length bytes) d) (writes (length ram) (length bytes) d)
    where
      anew : (how place : ℕ) (four : Four) → work_back (work_kept how place four d) x ≡ d
      anew how place four =
          rw (same.command, same.data0, same.data1)
          (ap (λ (status : ℕ). record { status = status; command = d.command; data0 = d.data0; data1 = d.data1; ticks = d.ticks; words = d.words; cylinder = d.cylinder })
          (sym (eqb-true d.status 3 e)))

      go : (r w : Bool) → given_back (moving r w) x ≡ d
      go true w = anew 2 (ram_place d) (four_at ram (ram_place d))
      go false true = anew 3 0 (four_at bytes (disk_place d))
      go false false = anew 1 0 no_four

  pub disk_back : given_back (kept_of ram bytes d) (disk_ticked d) ≡ d
  disk_back = go (is_busy d) refl
    where
      go : (busy : Bool) → is_busy d ≡ busy → given_back (kept_of ram bytes d) (disk_ticked d) ≡ d
      go true e = busy_back e (disk_ticked d) (ticked_same d)
      go false e = idle_back e (disk_ticked d) ∙ idle_still d e

  -- ---- what is kept of a disk that reads, of one that writes, and of others

  reads_busy : reads (length ram) (length bytes) d ≡ true → is_busy d ≡ true
  reads_busy e = (both (is_busy d) (eqb (code_of d.command) 3 && fits (length ram) (length bytes) d) e).0

  writes_busy : writes (length ram) (length bytes) d ≡ true → is_busy d ≡ true
  writes_busy e = (both (is_busy d) (eqb (code_of d.command) 4 && fits (length ram) (length bytes) d) e).0

  pub read_kept : reads (length ram) (length bytes) d ≡ true → kept_of ram bytes d ≡ work_kept 2 (ram_place d) (four_at ram (ram_place d)) d
  unfolding kept_of
  read_kept e = let b = reads_busy e in rw (e, b)

  pub written_kept : writes (length ram) (length bytes) d ≡ true → kept_of ram bytes d ≡ work_kept 3 0 (four_at bytes (disk_place d)) d
  unfolding kept_of
  written_kept e = let b = writes_busy e in let o = writes_only (length ram) (length bytes) d e in rw (o, e, b)

  pub idle_kept : is_busy d ≡ false → kept_of ram bytes d ≡ no_kept
  unfolding kept_of
  idle_kept e = rw e

  pub still_kept : is_busy d ≡ true → reads (length ram) (length bytes) d ≡ false → writes (length ram) (length bytes) d ≡ false → kept_of ram bytes d ≡ work_kept 1 0 no_four d
  still_kept b r w = busy_kept b ∙ ap (λ (x : Bool). moving x (writes (length ram) (length bytes) d)) r ∙ ap (moving false) w

  unread_how : reads (length ram) (length bytes) d ≡ false → eqb (kept_of ram bytes d).how 2 ≡ false
  unfolding kept_of
  unread_how e = rw e (go (is_busy d) (writes (length ram) (length bytes) d))
    where
      go : (b w : Bool) → eqb (cond b (cond w (work_kept 3 0 (four_at bytes (disk_place d)) d) (work_kept 1 0 no_four d)) no_kept).how 2 ≡ false
      go true true = refl
      go true false = refl
      go false w = refl

  unwritten_how : writes (length ram) (length bytes) d ≡ false → eqb (kept_of ram bytes d).how 3 ≡ false
  unfolding kept_of
  unwritten_how e = rw e (go (is_busy d) (reads (length ram) (length bytes) d))
    where
      go : (b r : Bool) → eqb (cond b (cond r (work_kept 2 (ram_place d) (four_at ram (ram_place d)) d) (work_kept 1 0 no_four d)) no_kept).how 3 ≡ false
      go true true = refl
      go true false = refl
      go false r = refl

  -- ---- RAM: the four bytes of a word that was read are put back as they were before the step

  pub ram_given : (now : List ℕ) → length now ≡ length ram →
      ram_back (kept_of ram bytes d) now ≡ cond (reads (length ram) (length bytes) d) (fix_four ram (ram_place d) now) now
  unfolding ram_back
  ram_given now l = go (reads (length ram) (length bytes) d) refl
    where
      go : (on : Bool) → reads (length ram) (length bytes) d ≡ on →
          cond (eqb (kept_of ram bytes d).how 2 && leb ((kept_of ram bytes d).place + 4) (length now))
          (put_four now (kept_of ram bytes d).place (kept_of ram bytes d).four) now
          ≡ cond on (fix_four ram (ram_place d) now) now
      go false e = rw (unread_how e)
      go true e =
          let f = fitting (length ram) (length bytes) d (reads_fits (length ram) (length bytes) d e) in
          let inside : ram_place d + 4 ≤ length now = omega arith in
          rw (read_kept e, le-leb (ram_place d + 4) (length now) inside)

  -- ---- the disk's bytes: `now` is RAM at its tick

  ticked_told : (now : List ℕ) (on : Bool) → writes (length now) (length bytes) d ≡ on →
      bytes_ticked d now bytes ≡ cond on (put_four bytes (disk_place d) (four_at now (ram_place d))) bytes
  unfolding bytes_ticked
  ticked_told now on e = rw e

  pub bytes_back_lem : (now : List ℕ) → length now ≡ length ram → bytes_back (kept_of ram bytes d) d (bytes_ticked d now bytes) ≡ bytes
  unfolding bytes_back
  bytes_back_lem now l = go (writes (length ram) (length bytes) d) refl
    where
      go : (on : Bool) → writes (length ram) (length bytes) d ≡ on →
          cond (eqb (kept_of ram bytes d).how 3 && leb (disk_place d + 4) (length (bytes_ticked d now bytes)))
          (put_four (bytes_ticked d now bytes) (disk_place d) (kept_of ram bytes d).four) (bytes_ticked d now bytes) ≡ bytes
      go false w = rw (unwritten_how w) (ticked_told now false (rw l w))
      go true w =
          let f = fitting (length ram) (length bytes) d (writes_fits (length ram) (length bytes) d w) in
          let inside : disk_place d + 4 ≤ length bytes = omega arith in
          rw (
            written_kept w,
            length_bytes d now bytes,
            le-leb (disk_place d + 4) (length bytes) inside,
            ticked_told now true (rw l w),
            put_over bytes (disk_place d) (four_at now (ram_place d)) (four_at bytes (disk_place d)),
          )
          (four_stays bytes (disk_place d))

  -- ---- what a step keeps has the layout

  -- a word's place in RAM is a multiple of 4, as DATA0 is
  place_even : reads (length ram) (length bytes) d ≡ true → eqb (ram_place d % 4) 0 ≡ true
  place_even e =
      let f = fitting (length ram) (length bytes) d (reads_fits (length ram) (length bytes) d e) in
      let even : d.data0 % 4 ≡ 0 =
      eqb-true (d.data0 % 4) 0
      (both (eqb (d.data0 % 4) 0) (leb 0x20000000 d.data0 && leb (d.data0 - 0x20000000 + 4096) (length ram))
      (both (in_ram (length ram) d.data0) (leb (block_of d + 4096) (length bytes) && (leb 1 d.words && leb d.words 1024)) (reads_fits (length ram) (length bytes) d e)).0).0 in
      let whole : ram_place d % 4 ≡ 0 = omega arith in
      eq-eqb (ram_place d % 4) 0 whole

  pub kept_fits_lem : kept_fits (kept_of ram bytes d) ≡ true
  unfolding kept_of kept_fits
  kept_fits_lem = go (is_busy d) (reads (length ram) (length bytes) d) refl (writes (length ram) (length bytes) d)
    where
      go : (b r : Bool) → reads (length ram) (length bytes) d ≡ r → (w : Bool) →
          kept_fits
          (cond b
          (cond r (work_kept 2 (ram_place d) (four_at ram (ram_place d)) d) (cond w (work_kept 3 0 (four_at bytes (disk_place d)) d) (work_kept 1 0 no_four d)))
          no_kept)
          ≡ true
      go true true e w = rw (place_even e)
      go true false e true = refl
      go true false e false = refl
      go false r e w = refl
