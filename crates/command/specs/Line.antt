-- A line as a command: nothing where it has only spaces, or `#` behind them; else what the best of all forms reads.
use Rattle.std.specs.Prelude.{true, false, cond, Result, Ok, Err, List, ℕ, leb, length}
use Rattle.forms.specs.Words as words
use Rattle.piece.specs.Mark.{stands_of, behind_spaces, word_of}
use Rattle.piece.specs.Behind.{named_of}
use Rattle.forms.specs.Fresh.{making_of}
use Rattle.forms.specs.Look.{looking_of}
use Rattle.command.specs.Table.{forms_of}
use Rattle.command.specs.declared.kinds.Command.{Command}
use Rattle.command.specs.declared.kinds.Command.TheVariants.{Nothing}
use Rattle.command.specs.declared.kinds.Command.TheVariants as command
use Rattle.piece.specs.declared.mark.Span.{Span}
use Rattle.piece.specs.declared.mark.Mark.{Mark}
use Rattle.forms.specs.declared.form.Form.{Form}
use Rattle.forms.specs.declared.form.Form.TheVariants.{New, Load, Compare, Save, Restore, Quit, Abandon, Run, RunToException, Step, Back, Blame, Before, Registers, Cp0, Tlb, Clocks, Printers, Station, Paper, Papers, Examine, Physical, Help}
use Rattle.forms.specs.declared.form.Reading.{Reading}

-- the name behind a form's word
abbrev pub name_behind : List ℕ → Mark → List ℕ → Span
name_behind line m first = (named_of line (word_of line m first)).value

-- the command of a form that fits, with the number that it holds
abbrev pub asked_of : List ℕ → Mark → Form → ℕ → Command
asked_of line m New v = command.New (making_of line m).value
asked_of line m Load v = command.Load (name_behind line m words.load) v
asked_of line m Compare v = command.Compare (name_behind line m words.compare)
asked_of line m Save v = command.Save
asked_of line m Restore v = command.Restore
asked_of line m Quit v = command.Quit
asked_of line m Abandon v = command.Abandon
asked_of line m Run v = command.Run v
asked_of line m RunToException v = command.RunToException v
asked_of line m Step v = command.Step v
asked_of line m Back v = command.Back v
asked_of line m Blame v = command.Blame v
asked_of line m Before v = command.Before v
asked_of line m Registers v = command.Registers
asked_of line m Cp0 v = command.Cp0
asked_of line m Tlb v = command.Tlb
asked_of line m Clocks v = command.Clocks
asked_of line m Printers v = command.Printers
asked_of line m Station v = command.Station
asked_of line m Paper v = command.Paper v
asked_of line m Papers v = command.Papers
asked_of line m Examine v = command.Examine (looking_of line m words.x false).value
asked_of line m Physical v = command.Examine (looking_of line m words.xp true).value
asked_of line m (Help t) v = command.Help t

abbrev pub said_of : List ℕ → Mark → Reading → Result Command ℕ
said_of line m r = cond r.mark.fits (Ok (asked_of line m r.form r.value)) (Err r.mark.reached)

-- the first word begins here
abbrev pub start_of : ℕ → Mark
start_of place = record { at = place; fits = true; reached = place }

unfoldable pub command_of : List ℕ → Result Command ℕ
command_of line =
    cond (leb (length line) (behind_spaces line 0)) (Ok Nothing)
    (cond (stands_of line (behind_spaces line 0) 35) (Ok Nothing)
    (said_of line (start_of (behind_spaces line 0)) (forms_of line (start_of (behind_spaces line 0)))))
