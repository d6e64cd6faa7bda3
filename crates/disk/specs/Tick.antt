-- Request L4, part 2 of a step: the tick of a busy disk. A seek or a reset counts down; a transfer moves one word; each finishes in the tick that ends it.
use Rattle.std.specs.Prelude.{ℕ, ◌+◌, ◌-◌, ◌≤◌, Bool, ◌&&◌, cond, List, ◌≡◌, eqb, leb, length}
use Rattle.disk.specs.declared.Disk.{Disk}
use Rattle.disk.specs.declared.tick.One.{One}
use Rattle.disk.specs.Fields.{code_of, cylnum, is_transfer, in_ram, frame_of, block_of, offset_of}
use Rattle.disk.specs.Four.{four_at, put_four}

-- what stands past the end of a list of disks, which nothing reaches
abbrev pub no_disk : Disk
no_disk = record { status = 0; command = 0; data0 = 0; data1 = 0; ticks = 0; words = 0; cylinder = 0 }

abbrev pub is_busy : Disk → Bool
is_busy d = eqb d.status 3

abbrev pub transfers : Disk → Bool
transfers d = is_transfer (code_of d.command)

-- one tick, or one word, is left, which falls to 0
abbrev pub is_last : Disk → Bool
is_last d = cond (transfers d) (leb d.words 1) (leb d.ticks 1)

abbrev pub finishes : Disk → Bool
finishes d = is_busy d && is_last d

-- where the boom is once the command has ended: RESET moves it to 0, SEEKCYL to CYLNUM
abbrev pub arrived : Disk → ℕ
arrived d = cond (eqb (code_of d.command) 0) 0 (cond (eqb (code_of d.command) 2) (cylnum d.command) d.cylinder)

abbrev pub ended : Disk → Disk
ended d =
    record { status = 1; command = d.command; data0 = d.data0; data1 = d.data1; ticks = 0; words = 0; cylinder = arrived d }

-- one word less, or one tick less
abbrev pub fallen : Disk → Disk
fallen d =
    record {
      status = d.status;
      command = d.command;
      data0 = d.data0;
      data1 = d.data1;
      ticks = cond (transfers d) d.ticks (d.ticks - 1);
      words = cond (transfers d) (d.words - 1) d.words;
      cylinder = d.cylinder;
    }

unfoldable pub disk_ticked : Disk → Disk
disk_ticked d = cond (is_busy d) (cond (is_last d) (ended d) (fallen d)) d

-- the block lies within the RAM and the disk lent, and a word of it is left: the rules say so of every disk that is at a transfer (proofs/Places: keeps-fits)
abbrev pub fits : ℕ → ℕ → Disk → Bool
fits room size d = in_ram room d.data0 && (leb (block_of d + 4096) size && (leb 1 d.words && leb d.words 1024))

-- a busy READBLK copies a word of the disk to RAM, a busy WRITEBLK a word of RAM to the disk; rooms are those of RAM and of the disk's bytes
abbrev pub reads : ℕ → ℕ → Disk → Bool
reads room size d = is_busy d && (eqb (code_of d.command) 3 && fits room size d)

abbrev pub writes : ℕ → ℕ → Disk → Bool
writes room size d = is_busy d && (eqb (code_of d.command) 4 && fits room size d)

-- the word's place in RAM and on the disk
abbrev pub ram_place : Disk → ℕ
ram_place d = frame_of d + offset_of d

abbrev pub disk_place : Disk → ℕ
disk_place d = block_of d + offset_of d

unfoldable pub ram_ticked : Disk → List ℕ → List ℕ → List ℕ
ram_ticked d ram bytes = cond (reads (length ram) (length bytes) d) (put_four ram (ram_place d) (four_at bytes (disk_place d))) ram

unfoldable pub bytes_ticked : Disk → List ℕ → List ℕ → List ℕ
bytes_ticked d ram bytes = cond (writes (length ram) (length bytes) d) (put_four bytes (disk_place d) (four_at ram (ram_place d))) bytes

-- ---- aids to proofs: nothing that a reader must believe

-- two blocks, and a word in both
pub record BlocksIn (to : List ℕ) (first : ℕ) (from : List ℕ) (second at : ℕ) : Type 0 where
  pub to_in : first + 4096 ≤ length to
  pub from_in : second + 4096 ≤ length from
  pub at_in : at + 4 ≤ 4096

-- what the word of one tick leaves
pub record WordIs (d : Disk) (ram bytes ram' bytes' : List ℕ) : Type 0 where
  pub ram_is : ram' ≡ ram_ticked d ram bytes
  pub bytes_is : bytes' ≡ bytes_ticked d ram bytes

-- what the tick of one disk gives: the disk, whether it finished, RAM and the disk's bytes
pub record OneIs (d : Disk) (ram bytes : List ℕ) (one : One) (ram' bytes' : List ℕ) : Type 0 where
  pub disk_is : one.disk ≡ disk_ticked d
  pub finished_is : one.finished ≡ finishes d
  pub ram_is : ram' ≡ ram_ticked d ram bytes
  pub bytes_is : bytes' ≡ bytes_ticked d ram bytes
