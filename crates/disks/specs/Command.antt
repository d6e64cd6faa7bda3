-- Request L4: writes to COMMAND and DATA0 of a disk of the line.
use Rattle.std.specs.Prelude.{ℕ, Bool, cond, not, ◌&&◌, get_or, set}
use Rattle.word.specs.Map.{bit, with_bit}
use Rattle.disk.specs.Tick.{no_disk, is_busy}
use Rattle.disk.specs.Command.{status_of, is_refused, commanded_of, with_data}
use Rattle.disks.specs.declared.Line.{Line}

-- an installed, idle disk takes writes; others ignore them
abbrev pub takes_writes : ℕ → ℕ → Line → Bool
takes_writes installed n line = bit n installed && not (is_busy (get_or line.disks n no_disk))

-- a command is stored and clears the pending bit; one that ends in an error turns it on at once. `room` is the length of RAM
unfoldable pub command_of : ℕ → ℕ → ℕ → ℕ → ℕ → Line → Line
command_of installed delay room n word line =
    let d = get_or line.disks n no_disk in
    cond (takes_writes installed n line)
    (record { disks = set line.disks n (commanded_of delay room word d); pending = with_bit n (is_refused (status_of room word d)) line.pending })
    line

-- DATA0 is stored as written
unfoldable pub data_of : ℕ → ℕ → ℕ → Line → Line
data_of installed n word line =
    cond (takes_writes installed n line)
    (record { disks = set line.disks n (with_data word (get_or line.disks n no_disk)); pending = line.pending })
    line
