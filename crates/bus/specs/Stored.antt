-- What a store in the device area does: to the printers, to the timer ("a timer write turns IP[2] off"), and to the interrupt lines in Cause.
use Rattle.std.specs.Prelude.{ℕ, ◌<◌, false}
use Rattle.word.specs.Sizes.{devices}
use Rattle.clock.specs.declared.Clock.{Clock}
use Rattle.cp0.specs.Interrupt.{with_line}
use Rattle.printer.specs.declared.Line.{Line}
use Rattle.printer.specs.Cause.{shown_of}
use Rattle.printer.specs.Command.{command_of, data_of}
use Rattle.bus.specs.declared.store.Store.{Store}
use Rattle.bus.specs.declared.store.Store.TheVariants.{Timer, Command, Data}
use Rattle.std.specs.Prelude.{Option, Some, None}

abbrev pub line_stored : ℕ → ℕ → Option Store → Line → Line
line_stored installed delay None line = line
line_stored installed delay (Some (Timer word)) line = line
line_stored installed delay (Some (Command n word)) line = command_of installed delay n word line
line_stored installed delay (Some (Data n word)) line = data_of installed n word line

abbrev pub clock_stored : Option Store → Clock → Clock
clock_stored None clock = clock
clock_stored (Some (Timer word)) clock = record { high = clock.high; low = clock.low; timer = word }
clock_stored (Some (Command n word)) clock = clock
clock_stored (Some (Data n word)) clock = clock

abbrev pub timer_line : Option Store → ℕ → ℕ
timer_line None cause = cause
timer_line (Some (Timer word)) cause = with_line 2 false cause
timer_line (Some (Command n word)) cause = cause
timer_line (Some (Data n word)) cause = cause

-- `pending` is the printers' map after the store
abbrev pub cause_stored : Option Store → ℕ → ℕ → ℕ
cause_stored s pending cause = shown_of pending (timer_line s cause)

-- ---- aids to proofs: nothing that a reader must believe

-- the printer that it names is one of the eight
abbrev pub InLine : Option Store → Type 0
InLine None = Unit {0}
InLine (Some (Timer word)) = Unit {0}
InLine (Some (Command n word)) = n < devices
InLine (Some (Data n word)) = n < devices
