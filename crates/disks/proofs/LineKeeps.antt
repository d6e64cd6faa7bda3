-- The line of disks keeps its rules over a tick and over every write. What is so of every line of devices is `device`'s.
use Prim.Native.Nat.{ℕ, ◌≤◌, ◌<◌}
use mathlib.Core.Path.{◌≡◌, refl}
use mathlib.Core.Bool.{Bool, true, false, not, cond}
use borrow.Author.Tests.{not-true}
use lib.ListN.{length, get_or, set}
use Rattle.word.specs.Map.{bit, with_bit}
use Rattle.word.proofs.Cond.{both}
use Rattle.device.proofs.Keeping as device
use Rattle.disk.specs.declared.Disk.{Disk}
use Rattle.disk.specs.Tick.{no_disk, is_busy, is_last, finishes, disk_ticked}
use Rattle.disk.specs.Command.{status_of, is_refused, commanded_of, with_data}
use Rattle.disk.specs.Rules.{disk_keeps}
use Rattle.disk.proofs.DiskKeeps.{Present, present, absent_idle, ticked_keeps, commanded_keeps, with_data_keeps}
use Rattle.disks.specs.declared.Line.{Line}
use Rattle.disks.specs.Tick.{Spinning, ticked_of}
use Rattle.disks.specs.Command.{takes_writes, command_of, data_of}
use Rattle.disks.specs.Rules.{keeps_of, Keeps, line_keeps}
use Rattle.disks.proofs.Passed.{disks_told, pending_told, length_ticks}

-- a disk that finishes is busy, so it is installed
finisher_here : (delay room : ℕ) (installed pending : Bool) (d : Disk) → keeps_of delay room installed pending d ≡ true → finishes d ≡ true → installed ≡ true
unfolding disk_keeps
finisher_here delay room true pending d k f = refl
finisher_here delay room false pending d k f = absurd (absent_idle d k (both (is_busy d) (is_last d) f).0)

-- A tick keeps the rules.
pub tick_keeps : (installed delay : ℕ) (s : Spinning) → Keeps installed delay (length s.ram) s.line →
    Keeps installed delay (length (ticked_of s).ram) (ticked_of s).line
tick_keeps installed delay s k =
    rw (length_ticks s 8, disks_told s 8, pending_told s 8)
    (device.tick_keeps no_disk (keeps_of delay (length s.ram)) installed s.line.disks s.line.pending k finishes disk_ticked
    (finisher_here delay (length s.ram)) (λ i on d h. ticked_keeps delay (length s.ram) d i on h))

-- ---- a write to disk n

module _ (installed delay room n : ℕ) (line : Line) (k : Keeps installed delay room line) (in_line : n < 8) where
  abbrev d : Disk
  d = get_or line.disks n no_disk

  -- a disk that takes writes is installed and idle
  taker : takes_writes installed n line ≡ true → (bit n installed ≡ true) × (is_busy d ≡ false) × Present (bit n line.pending) delay room d
  unfolding disk_keeps
  taker e =
      let h = both (bit n installed) (not (is_busy d)) e in
      let keeps = rw h.0 at (k.each n in_line) in
      (h.0, not-true (is_busy d) h.1, present (bit n line.pending) delay room d keeps)

  -- A command keeps the rules.
  pub command_keeps : (word : ℕ) → 1 ≤ delay → Keeps installed delay room (command_of installed delay room n word line)
  unfolding command_of disk_keeps
  command_keeps word some = go (takes_writes installed n line) refl
    where
      go : (takes : Bool) → takes_writes installed n line ≡ takes →
          Keeps installed delay room
          (cond takes (record { disks = set line.disks n (commanded_of delay room word d); pending = with_bit n (is_refused (status_of room word d)) line.pending }) line)
      go false e = k
      go true e =
          let t = taker e in
          device.one_anew no_disk (keeps_of delay room) installed line.disks line.pending k n in_line (commanded_of delay room word d) t.0 (is_refused (status_of room word d))
          (rw t.0 (commanded_keeps (bit n line.pending) delay room d t.2 t.1 word some))

  -- A write of DATA0 keeps the rules.
  pub data_keeps : (word : ℕ) → Keeps installed delay room (data_of installed n word line)
  unfolding data_of disk_keeps
  data_keeps word = go (takes_writes installed n line) refl
    where
      go : (takes : Bool) → takes_writes installed n line ≡ takes →
          Keeps installed delay room (cond takes (record { disks = set line.disks n (with_data word d); pending = line.pending }) line)
      go false e = k
      go true e =
          let t = taker e in
          device.same_anew no_disk (keeps_of delay room) installed line.disks line.pending k n in_line (with_data word d) t.0
          (rw t.0 (with_data_keeps (bit n line.pending) delay room d t.2 t.1 word))

-- ---- the test says what the rules say

pub tested : (installed delay room : ℕ) (line : Line) → length line.disks ≡ 8 → line_keeps installed delay room line ≡ true → Keeps installed delay room line
unfolding line_keeps
tested installed delay room line eight e = device.tested no_disk (keeps_of delay room) installed line.disks line.pending eight e

pub kept_tests : (installed delay room : ℕ) (line : Line) → Keeps installed delay room line → line_keeps installed delay room line ≡ true
unfolding line_keeps
kept_tests installed delay room line k = device.kept_tests no_disk (keeps_of delay room) installed line.disks line.pending k
