-- Request L4, part 2 of a step, of all eight disks: in number order, each on what the one before it left of RAM. "Two disks on the same bytes act in number order."
use Rattle.std.specs.Prelude.{ℕ, zero, suc, Bool, List, [], ◌∷◌, get_or, set}
use Rattle.word.specs.Sizes.{devices}
use Rattle.device.specs.Line.{pending_on, some_of}
use Rattle.disk.specs.declared.Disk.{Disk}
use Rattle.disk.specs.Tick.{no_disk, is_busy, finishes, disk_ticked, ram_ticked, bytes_ticked}
use Rattle.disks.specs.declared.Line.{Line}

-- the line, RAM, and the bytes of each disk
pub record Spinning : Type 0 where
  pub line : Line
  pub ram : List ℕ
  pub stores : List (List ℕ)

abbrev pub spinning : Line → List ℕ → List (List ℕ) → Spinning
spinning line ram stores = record { line = line; ram = ram; stores = stores }

abbrev pub eight : List ℕ → List ℕ → List ℕ → List ℕ → List ℕ → List ℕ → List ℕ → List ℕ → List (List ℕ)
eight a b c d e f g h = a ∷ b ∷ c ∷ d ∷ e ∷ f ∷ g ∷ h ∷ []

-- the line, RAM and one disk's bytes
pub record Turned : Type 0 where
  pub line : Line
  pub ram : List ℕ
  pub bytes : List ℕ

abbrev pub turned : Line → List ℕ → List ℕ → Turned
turned line ram bytes = record { line = line; ram = ram; bytes = bytes }

-- the tick of disk n, with its bytes; it is pending where it finishes
unfoldable pub turn_of : ℕ → Line → List ℕ → List ℕ → Turned
turn_of n line ram bytes =
    let d = get_or line.disks n no_disk in
    turned (record { disks = set line.disks n (disk_ticked d); pending = pending_on n (finishes d) line.pending }) (ram_ticked d ram bytes)
    (bytes_ticked d ram bytes)

-- what a turn leaves of all
abbrev pub put_by : ℕ → List (List ℕ) → Turned → Spinning
put_by n stores t = record { line = t.line; ram = t.ram; stores = set stores n t.bytes }

unfoldable pub tick_one : ℕ → Spinning → Spinning
tick_one n s = put_by n s.stores (turn_of n s.line s.ram (get_or s.stores n []))

-- the ticks of disks 0 to n - 1
unfoldable pub ticks : ℕ → Spinning → Spinning
ticks zero s = s
ticks (suc n) s = tick_one n (ticks n s)

abbrev pub ticked_of : Spinning → Spinning
ticked_of s = ticks devices s

-- ---- aids to proofs: nothing that a reader must believe

abbrev pub any_busy : List Disk → Bool
any_busy disks = some_of no_disk is_busy devices disks

-- a disk finishes at the next tick
abbrev pub any_ending : List Disk → Bool
any_ending disks = some_of no_disk finishes devices disks

-- as many ticks as told
unfoldable pub waited_of : ℕ → Spinning → Spinning
waited_of zero s = s
waited_of (suc n) s = ticked_of (waited_of n s)
