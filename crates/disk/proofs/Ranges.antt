-- What a record keeps of a disk that keeps the rules has room in its four words.
use Prim.Native.Nat.{ℕ, ◌+◌, ◌^◌, ◌≤◌, ◌<◌}
use mathlib.Core.Path.{◌≡◌, refl}
use mathlib.Core.Bool.{Bool, true, false, ◌&&◌, ◌||◌, cond}
use mathlib.Core.List.{List}
use native.Mathlib.Decide.{dec_lt}
use native.Mathlib.Omega.{arith}
use borrow.Author.Tests.{eqb-true, leb-true, ltb-true}
use lib.Dec.{eqb, leb}
use lib.ListN.{length, get_or, get_or-eq_default}
use Rattle.word.specs.Lists.{Below}
use Rattle.word.specs.Number.{between}
use Rattle.word.proofs.Cond.{both}
use Rattle.disk.specs.declared.Disk.{Disk}
use Rattle.disk.specs.declared.four.Four.{Four}
use Rattle.disk.specs.Fields.{cylinders, code_of, cylnum, is_boom, has_cylinder, has_block, in_ram}
use Rattle.disk.specs.Four.{four_at, bytes_of, no_four}
use Rattle.disk.specs.Tick.{is_busy, transfers, reads, writes, ram_place, disk_place}
use Rattle.disk.specs.Rules.{absent_keeps, present_keeps, disk_keeps}
use Rattle.disk.specs.Saved.{work_kept, no_kept, kept_of}
use Rattle.disk.specs.Words.{Ranged}
use Rattle.disk.proofs.KeptWords.{all_four}
use Rattle.disk.proofs.DiskKeeps.{present, absent_idle, transfer_keeps_lem, boom_keeps_lem}

-- ---- four bytes of a list of bytes

byte_at : (l : List ℕ) → Below 256 l → (i : ℕ) → get_or l i 0 < 256
byte_at l h i =
    elim (dec_lt i (length l)) [
      | yes inside ↦ h i inside
      | no beyond ↦ let e : get_or l i 0 ≡ 0 = get_or-eq_default l 0 (omega arith) in omega arith
    ]

four_bytes : (l : List ℕ) (at : ℕ) → Below 256 l → Below 256 (bytes_of (four_at l at))
four_bytes l at h =
    all_four 256 (get_or l at 0) (get_or l (at + 1) 0) (get_or l (at + 2) 0) (get_or l (at + 3) 0) (byte_at l h at) (byte_at l h (at + 1)) (byte_at l h (at + 2)) (byte_at l h (at + 3))

none_bytes : Below 256 (bytes_of no_four)
none_bytes = let none : 0 < 256 = omega arith in
    all_four 256 0 0 0 0 none none none none

-- ---- a disk at work

module _ (pending : Bool) (delay room : ℕ) (d : Disk) (k : present_keeps pending delay room d ≡ true) (busy : is_busy d ≡ true) (short : delay < 65536) where
  ticks_small : d.ticks < 65536
  ticks_small = go (transfers d) refl
    where
      go : (t : Bool) → transfers d ≡ t → d.ticks < 65536
      go true t =
          let h =
          (both (between 1 1024 d.words && eqb d.ticks 0) (has_block d.data1 d.cylinder d.command && in_ram room d.data0)
          (transfer_keeps_lem pending delay room d (present pending delay room d k) busy t)).0 in
          let none : d.ticks ≡ 0 = eqb-true d.ticks 0 (both (between 1 1024 d.words) (eqb d.ticks 0) h).1 in
          omega arith
      go false t =
          let h =
          (both (between 1 delay d.ticks && eqb d.words 0)
          (is_boom (code_of d.command) && (eqb (code_of d.command) 0 || has_cylinder d.data1 (cylnum d.command)))
          (boom_keeps_lem pending delay room d (present pending delay room d k) busy t)).0 in
          let g = (both (between 1 delay d.ticks) (eqb d.words 0) h).0 in
          let high : d.ticks ≤ delay = leb-true d.ticks delay (both (leb 1 d.ticks) (leb d.ticks delay) g).1 in
          omega arith

  words_small : d.words < 65536
  words_small = go (transfers d) refl
    where
      go : (t : Bool) → transfers d ≡ t → d.words < 65536
      go true t =
          let h =
          (both (between 1 1024 d.words && eqb d.ticks 0) (has_block d.data1 d.cylinder d.command && in_ram room d.data0)
          (transfer_keeps_lem pending delay room d (present pending delay room d k) busy t)).0 in
          let g = (both (between 1 1024 d.words) (eqb d.ticks 0) h).0 in
          let high : d.words ≤ 1024 = leb-true d.words 1024 (both (leb 1 d.words) (leb d.words 1024) g).1 in
          omega arith
      go false t =
          let h =
          (both (between 1 delay d.ticks && eqb d.words 0)
          (is_boom (code_of d.command) && (eqb (code_of d.command) 0 || has_cylinder d.data1 (cylnum d.command)))
          (boom_keeps_lem pending delay room d (present pending delay room d k) busy t)).0 in
          let none : d.words ≡ 0 = eqb-true d.words 0 (both (between 1 delay d.ticks) (eqb d.words 0) h).1 in
          omega arith

  -- DATA1 is a word
  cylinder_small : d.data1 < 2 ^ 32 → d.cylinder < 65536
  cylinder_small word = go (has_cylinder d.data1 d.cylinder) refl (present pending delay room d k).place
    where
      go : (has : Bool) → has_cylinder d.data1 d.cylinder ≡ has → (has || eqb d.cylinder 0) ≡ true → d.cylinder < 65536
      go true e h = let below : d.cylinder < cylinders d.data1 = ltb-true d.cylinder (cylinders d.data1) e in omega arith
      go false e h = let none : d.cylinder ≡ 0 = eqb-true d.cylinder 0 h in omega arith

-- ---- the law

module _
    (installed pending : Bool) (delay room : ℕ) (d : Disk) (k : disk_keeps installed pending delay room d ≡ true)
    (short : delay < 65536) (word : d.data1 < 2 ^ 32)
    (ram bytes : List ℕ) (ram_bytes : Below 256 ram) (disk_bytes : Below 256 bytes)
  where
    here : is_busy d ≡ true → present_keeps pending delay room d ≡ true
    unfolding disk_keeps
    here busy = go installed k
      where
        go : (i : Bool) → cond i (present_keeps pending delay room d) (absent_keeps d) ≡ true → present_keeps pending delay room d ≡ true
        go true e = e
        go false e = absurd (absent_idle d e busy)

    working : is_busy d ≡ true → (how place : ℕ) (four : Four) → how < 4 → Below 256 (bytes_of four) → Ranged (work_kept how place four d)
    working busy how place four few small = record {
      how = few;
      cylinder = cylinder_small pending delay room d (here busy) busy short word;
      ticks = ticks_small pending delay room d (here busy) busy short;
      words = words_small pending delay room d (here busy) busy short;
      bytes = small;
    }

    pub ranged : Ranged (kept_of ram bytes d)
    unfolding kept_of
    ranged = go (is_busy d) refl (reads (length ram) (length bytes) d) (writes (length ram) (length bytes) d)
      where
        go : (b : Bool) → is_busy d ≡ b → (r w : Bool) →
            Ranged
            (cond b
            (cond r (work_kept 2 (ram_place d) (four_at ram (ram_place d)) d) (cond w (work_kept 3 0 (four_at bytes (disk_place d)) d) (work_kept 1 0 no_four d)))
            no_kept)
        go true e true w = working e 2 (ram_place d) (four_at ram (ram_place d)) (omega arith) (four_bytes ram (ram_place d) ram_bytes)
        go true e false true = working e 3 0 (four_at bytes (disk_place d)) (omega arith) (four_bytes bytes (disk_place d) disk_bytes)
        go true e false false = working e 1 0 no_four (omega arith) none_bytes
        go false e r w = record { how = omega arith; cylinder = omega arith; ticks = omega arith; words = omega arith; bytes = none_bytes }
