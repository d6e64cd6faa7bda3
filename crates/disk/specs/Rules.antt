-- Request L4: "A disk keeps a printer's rules with STATUS 1 to 7, but ..": what every image keeps of a disk.
use Rattle.std.specs.Prelude.{ℕ, Bool, not, ◌&&◌, ◌||◌, cond, eqb}
use Rattle.word.specs.Number.{between}
use Rattle.disk.specs.declared.Disk.{Disk}
use Rattle.disk.specs.Fields.{code_of, cylnum, is_boom, has_cylinder, has_block, in_ram, size_of}
use Rattle.disk.specs.Tick.{is_busy, transfers}

-- "an uninstalled one is all 0"
abbrev pub absent_keeps : Disk → Bool
absent_keeps d =
    eqb d.status 0
    && eqb d.command 0
    && eqb d.data0 0
    && eqb d.data1 0
    && eqb d.ticks 0
    && eqb d.words 0
    && eqb d.cylinder 0

-- "3 or 4 with words left 1 to 1,024, legal parameters and its 4,096 bytes inside RAM"
abbrev pub transfer_keeps : ℕ → Disk → Bool
transfer_keeps room d =
    (between 1 1024 d.words && eqb d.ticks 0) && (has_block d.data1 d.cylinder d.command && in_ram room d.data0)

-- "code 0 or 2 with ticks left 1 to delay", and a seek's parameter legal
abbrev pub boom_keeps : ℕ → Disk → Bool
boom_keeps delay d =
    (between 1 delay d.ticks && eqb d.words 0)
    && (is_boom (code_of d.command) && (eqb (code_of d.command) 0 || has_cylinder d.data1 (cylnum d.command)))

-- a busy one is not pending; "ticks or words not so named are 0"
abbrev pub work_keeps : Bool → ℕ → ℕ → Disk → Bool
work_keeps pending delay room d =
    cond (is_busy d) (not pending && cond (transfers d) (transfer_keeps room d) (boom_keeps delay d)) (eqb d.ticks 0 && eqb d.words 0)

-- "Its cylinder is below its count of them, or 0"
abbrev pub place_keeps : Disk → Bool
place_keeps d = has_cylinder d.data1 d.cylinder || eqb d.cylinder 0

unfoldable pub present_keeps : Bool → ℕ → ℕ → Disk → Bool
present_keeps pending delay room d = between 1 7 d.status && work_keeps pending delay room d && place_keeps d

-- `room` is the length of the RAM lent
unfoldable pub disk_keeps : Bool → Bool → ℕ → ℕ → Disk → Bool
disk_keeps installed pending delay room d = cond installed (present_keeps pending delay room d) (absent_keeps d)

-- row 13: a buffer of the disk's own size
abbrev pub size_keeps : ℕ → Disk → Bool
size_keeps size d = eqb size (size_of d.data1)
