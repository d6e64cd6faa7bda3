-- What the words of a session number: modes, signals by gdb's numbers, lines for standard error.
use Rattle.std.specs.Prelude.{ℕ, ◌==◌, cond, Result, Ok, Err}
use Rattle.stub.specs.declared.kinds.Mode.{Mode}
use Rattle.stub.specs.declared.kinds.Mode.TheVariants.{Idle, Continue, Step, Range, Detaching, Ending}
use Rattle.stub.specs.declared.kinds.Signal.{Signal}
use Rattle.stub.specs.declared.kinds.Signal.TheVariants.{Interrupt, Trap, Bus}
use Rattle.stub.specs.declared.kinds.Line.{Line}
use Rattle.stub.specs.declared.kinds.Line.TheVariants.{Emptied, TwoMatches, Refused}

abbrev pub mode_number : Mode → ℕ
mode_number Idle = 0
mode_number Continue = 1
mode_number Step = 2
mode_number Range = 3
mode_number Detaching = 4
mode_number Ending = 5

abbrev pub signal_number : Signal → ℕ
signal_number Interrupt = 2
signal_number Trap = 5
signal_number Bus = 10

-- 0 stands for none
abbrev pub line_number : Line → ℕ
line_number Emptied = 1
line_number TwoMatches = 2
line_number Refused = 3

-- a number that is none of them is taken as Idle
abbrev pub mode_of : ℕ → Mode
mode_of n =
    cond (n == 1) Continue
    (cond (n == 2) Step
    (cond (n == 3) Range
    (cond (n == 4) Detaching
    (cond (n == 5) Ending Idle))))

-- the number itself where it is no line
abbrev pub line_of : ℕ → Result Line ℕ
line_of n =
    cond (n == 1) (Ok Emptied)
    (cond (n == 2) (Ok TwoMatches)
    (cond (n == 3) (Ok Refused) (Err n)))
