-- Document 01, "Bus words and printers": writes to COMMAND and DATA0. Command codes are 5.6's: RESET 0, ACK 1, PRINTCHR 2.
use Rattle.std.specs.Prelude.{ℕ, Bool, cond, not, ◌&&◌, ◌||◌, eqb, get_or, set}
use Rattle.printer.specs.declared.Printer.{Printer}
use Rattle.printer.specs.declared.Line.{Line}
use Rattle.word.specs.Map.{bit, with_bit}
use Rattle.printer.specs.Tick.{no_printer, is_busy}

-- RESET and PRINTCHR take time
abbrev pub starts_work : ℕ → Bool
starts_work word = eqb word 0 || eqb word 2

abbrev pub is_ack : ℕ → Bool
is_ack word = eqb word 1

abbrev pub is_illegal : ℕ → Bool
is_illegal word = not (starts_work word) && not (is_ack word)

-- 0 and 2 set STATUS 3 and ticks left to the delay, ACK sets STATUS 1, others set STATUS 2
unfoldable pub commanded_of : ℕ → ℕ → Printer → Printer
commanded_of delay word p =
    record {
      status = cond (starts_work word) 3 (cond (is_ack word) 1 2);
      command = word;
      data0 = p.data0;
      left = cond (starts_work word) delay p.left;
      count = p.count;
    }

abbrev pub with_data : ℕ → Printer → Printer
with_data word p = record { status = p.status; command = p.command; data0 = word; left = p.left; count = p.count }

-- an installed, idle printer takes writes; others ignore them
abbrev pub takes_writes : ℕ → ℕ → Line → Bool
takes_writes installed n line = bit n installed && not (is_busy (get_or line.printers n no_printer))

-- a command is stored and clears the pending bit; an illegal one turns it on at once
unfoldable pub command_of : ℕ → ℕ → ℕ → ℕ → Line → Line
command_of installed delay n word line =
    cond (takes_writes installed n line)
    (record {
      printers = set line.printers n (commanded_of delay word (get_or line.printers n no_printer));
      pending = with_bit n (is_illegal word) line.pending;
    })
    line

-- DATA0 is stored as written
unfoldable pub data_of : ℕ → ℕ → ℕ → Line → Line
data_of installed n word line =
    cond (takes_writes installed n line)
    (record { printers = set line.printers n (with_data word (get_or line.printers n no_printer)); pending = line.pending })
    line
