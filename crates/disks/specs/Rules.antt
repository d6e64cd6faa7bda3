-- Request L4: what every image keeps of the disks' pending map and of each disk.
use Rattle.std.specs.Prelude.{ℕ, Bool, ◌&&◌, get_or}
use Rattle.word.specs.Lists.{every}
use Rattle.word.specs.Map.{bit}
use Rattle.word.specs.Mask.{within}
use Rattle.word.specs.Sizes.{devices}
use Rattle.device.specs.Line as device
use Rattle.disk.specs.declared.Disk.{Disk}
use Rattle.disk.specs.Tick.{no_disk}
use Rattle.disk.specs.Rules.{disk_keeps}
use Rattle.disks.specs.declared.Line.{Line}

-- disk n, by its bit of the two maps
abbrev pub disk_keeps_at : ℕ → ℕ → ℕ → Line → ℕ → Bool
disk_keeps_at installed delay room line n =
    disk_keeps (bit n installed) (bit n line.pending) delay room (get_or line.disks n no_disk)

-- "pending within installed", and the rules of each disk: the test that a call makes of a lent image
unfoldable pub line_keeps : ℕ → ℕ → ℕ → Line → Bool
line_keeps installed delay room line = within installed line.pending && every devices (disk_keeps_at installed delay room line)

-- ---- aids to proofs: nothing that a reader must believe

-- a disk's rules, as those of a device of a line
abbrev pub keeps_of : ℕ → ℕ → Bool → Bool → Disk → Bool
keeps_of delay room installed pending d = disk_keeps installed pending delay room d

-- what the test says
abbrev pub Keeps : ℕ → ℕ → ℕ → Line → Type 0
Keeps installed delay room line = device.Keeps no_disk (keeps_of delay room) installed line.disks line.pending
