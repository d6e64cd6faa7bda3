-- What a record keeps of a disk so that its tick can be taken back: nothing of a disk that was not at work before the step, for it does not tick; of one at work, which
-- had STATUS 3, its cylinder, ticks left and words left, and of a word that it moved the place in RAM and the four bytes that were overwritten. All is as it was before
-- the step. The place on the disk follows from the disk given back: COMMAND and DATA1 do not change in a tick.
use Rattle.std.specs.Prelude.{ℕ, ◌+◌, ◌%◌, Bool, cond, ◌&&◌, ◌||◌, List, eqb, leb, length}
use Rattle.disk.specs.declared.Disk.{Disk}
use Rattle.disk.specs.declared.four.Four.{Four}
use Rattle.disk.specs.declared.saved.Kept.{Kept}
use Rattle.disk.specs.Four.{four_at, put_four, no_four}
use Rattle.disk.specs.Tick.{is_busy, reads, writes, ram_place, disk_place}

-- of a disk at work; `how` is 2 where it reads a word into RAM, 3 where it writes one to the disk, 1 where it moves none
abbrev pub work_kept : ℕ → ℕ → Four → Disk → Kept
work_kept how place four d = record { how = how; cylinder = d.cylinder; ticks = d.ticks; words = d.words; place = place; four = four }

-- of a disk that is not at work
abbrev pub no_kept : Kept
no_kept = record { how = 0; cylinder = 0; ticks = 0; words = 0; place = 0; four = no_four }

-- d is the disk before the step, and so are RAM and the disk's bytes
unfoldable pub kept_of : List ℕ → List ℕ → Disk → Kept
kept_of ram bytes d =
    cond (is_busy d)
    (cond (reads (length ram) (length bytes) d) (work_kept 2 (ram_place d) (four_at ram (ram_place d)) d)
    (cond (writes (length ram) (length bytes) d) (work_kept 3 0 (four_at bytes (disk_place d)) d) (work_kept 1 0 no_four d)))
    no_kept

-- ---- given back

-- the disk as it was at work: d is the disk now
abbrev pub work_back : Kept → Disk → Disk
work_back k d =
    record {
      status = 3;
      command = d.command;
      data0 = d.data0;
      data1 = d.data1;
      ticks = k.ticks;
      words = k.words;
      cylinder = k.cylinder;
    }

unfoldable pub given_back : Kept → Disk → Disk
given_back k d = cond (eqb k.how 0) d (work_back k d)

-- RAM and the disk's bytes as they were; `d` is the disk given back. What lies outside, as only a record that is not well formed has, is passed over
unfoldable pub ram_back : Kept → List ℕ → List ℕ
ram_back k ram = cond (eqb k.how 2 && leb (k.place + 4) (length ram)) (put_four ram k.place k.four) ram

unfoldable pub bytes_back : Kept → Disk → List ℕ → List ℕ
bytes_back k d bytes = cond (eqb k.how 3 && leb (disk_place d + 4) (length bytes)) (put_four bytes (disk_place d) k.four) bytes

-- ---- the layout: "how at most 3; how 0: all four words 0; third word a multiple of 4, and 0 unless how is 2; fourth word 0 unless how is 2 or 3"

abbrev pub is_none : Four → Bool
is_none four = eqb four.a 0 && (eqb four.b 0 && (eqb four.c 0 && eqb four.d 0))

abbrev pub is_still : Kept → Bool
is_still k = eqb k.cylinder 0 && (eqb k.ticks 0 && eqb k.words 0)

abbrev pub place_fits : Kept → Bool
place_fits k = eqb (k.place % 4) 0 && (eqb k.how 2 || eqb k.place 0)

unfoldable pub kept_fits : Kept → Bool
kept_fits k = leb k.how 3 && (leb 1 k.how || is_still k) && place_fits k && (leb 2 k.how || is_none k.four)
