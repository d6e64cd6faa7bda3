-- How a run holds the eight disks: as their fifty-six words, seven a disk, in the order of the image.
use Rattle.std.specs.Prelude.{ℕ, ◌+◌, ◌*◌, Bool, not, ◌&&◌, List, [], ◌∷◌, ◌≡◌, length, get_or}
use Rattle.word.specs.Lists.{tabulate}
use Rattle.word.specs.Map.{bit}
use Rattle.word.specs.Sizes.{devices}
use Rattle.disk.specs.declared.Disk.{Disk}
use Rattle.disk.specs.Tick.{is_busy}
use Rattle.disks.specs.declared.Line.{Line}
use Rattle.disks.specs.Tick.{spinning, turned, turn_of, ticked_of}
use Rattle.disks.specs.Command.{command_of, data_of}

-- "STATUS, COMMAND, DATA0, DATA1, ticks left, words left, cylinder"
abbrev pub disk_words : Disk → List ℕ
disk_words d = d.status ∷ d.command ∷ d.data0 ∷ d.data1 ∷ d.ticks ∷ d.words ∷ d.cylinder ∷ []

-- the disk of seven words
abbrev pub disk_from : (ℕ → ℕ) → Disk
disk_from word =
    record { status = word 0; command = word 1; data0 = word 2; data1 = word 3; ticks = word 4; words = word 5; cylinder = word 6 }

abbrev pub disk_in : List ℕ → ℕ → Disk
disk_in words n = disk_from (λ (j : ℕ). get_or words (7 * n + j) 0)

unfoldable pub disks_in : List ℕ → List Disk
disks_in words = tabulate devices (disk_in words)

abbrev pub line_in : List ℕ → ℕ → Line
line_in words pending = record { disks = disks_in words; pending = pending }

-- ---- aids to proofs: nothing that a reader must believe

-- what a move leaves: words', ram', bytes' and stores' are what stands behind the references afterwards, `map` the pending map

pub record TurnIs (n : ℕ) (words : List ℕ) (pending : ℕ) (ram bytes : List ℕ) (map : ℕ) (words' ram' bytes' : List ℕ) : Type 0 where
  pub turn_is : turned (line_in words' map) ram' bytes' ≡ turn_of n (line_in words pending) ram bytes
  pub all : length words' ≡ 56

pub record TicksIs (words : List ℕ) (pending : ℕ) (ram : List ℕ) (stores : List (List ℕ)) (map : ℕ) (words' ram' : List ℕ) (stores' : List (List ℕ)) : Type 0 where
  pub ticked : spinning (line_in words' map) ram' stores' ≡ ticked_of (spinning (line_in words pending) ram stores)
  pub all : length words' ≡ 56

-- an installed, idle disk takes writes
abbrev pub takes_in : ℕ → ℕ → Disk → Bool
takes_in installed n d = bit n installed && not (is_busy d)

pub record CommandIs (installed delay room n word : ℕ) (words : List ℕ) (pending map : ℕ) (words' : List ℕ) : Type 0 where
  pub line_is : line_in words' map ≡ command_of installed delay room n word (line_in words pending)
  pub all : length words' ≡ 56

-- whatever the pending map is
pub record DataIs (installed n word : ℕ) (words words' : List ℕ) : Type 0 where
  pub line_is : (pending : ℕ) → line_in words' pending ≡ data_of installed n word (line_in words pending)
  pub all : length words' ≡ 56
