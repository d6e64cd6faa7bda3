-- The commands as numbers, for C: the kind, what the command holds, and zeros.
use Rattle.std.specs.Prelude.{Bool, cond, Result, Ok, Err, List, [], ◌∷◌, ℕ}
use Rattle.command.specs.declared.kinds.Command.{Command}
use Rattle.forms.specs.declared.kinds.Fresh.{Fresh}
use Rattle.forms.specs.declared.kinds.Look.{Look}
use Rattle.forms.specs.declared.kinds.Format.{Format}
use Rattle.forms.specs.declared.kinds.Unit.{Unit}
use Rattle.forms.specs.declared.kinds.Topic.{Topic}
use Rattle.command.specs.declared.kinds.Command.TheVariants as command
use Rattle.forms.specs.declared.kinds.Format.TheVariants as format
use Rattle.forms.specs.declared.kinds.Unit.TheVariants as unit
use Rattle.forms.specs.declared.kinds.Topic.TheVariants as topic

-- ---- aids to proofs: nothing that a reader must believe

abbrev pub format_number : Format → ℕ
format_number format.Hex = 0
format_number format.Signed = 1
format_number format.Unsigned = 2
format_number format.Character = 3

abbrev pub unit_number : Unit → ℕ
unit_number unit.Byte = 0
unit_number unit.Half = 1
unit_number unit.Word = 2

abbrev pub physical_number : Bool → ℕ
physical_number b = cond b 1 0

abbrev pub topic_number : Topic → ℕ
topic_number topic.All = 0
topic_number topic.New = 1
topic_number topic.Load = 2
topic_number topic.Run = 3
topic_number topic.Step = 4
topic_number topic.Back = 5
topic_number topic.Blame = 6
topic_number topic.Before = 7
topic_number topic.Info = 8
topic_number topic.Paper = 9
topic_number topic.Examine = 10
topic_number topic.Compare = 11
topic_number topic.Save = 12
topic_number topic.Restore = 13
topic_number topic.Quit = 14
topic_number topic.Abandon = 15

abbrev pub fresh_numbers : Fresh → List ℕ
fresh_numbers f = 1 ∷ f.ram ∷ f.paper ∷ f.journal ∷ f.scale ∷ f.delay ∷ f.printers ∷ f.execution.from ∷ f.execution.to ∷ f.bootstrap.from ∷ f.bootstrap.to ∷ []

abbrev pub look_numbers : Look → List ℕ
look_numbers l = 17 ∷ l.count ∷ format_number l.format ∷ unit_number l.unit ∷ l.address ∷ physical_number l.physical ∷ 0 ∷ 0 ∷ 0 ∷ 0 ∷ 0 ∷ []

abbrev pub command_numbers : Command → List ℕ
command_numbers command.Nothing = 0 ∷ 0 ∷ 0 ∷ 0 ∷ 0 ∷ 0 ∷ 0 ∷ 0 ∷ 0 ∷ 0 ∷ 0 ∷ []
command_numbers (command.New f) = fresh_numbers f
command_numbers (command.Load name n) = 2 ∷ name.from ∷ name.to ∷ n ∷ 0 ∷ 0 ∷ 0 ∷ 0 ∷ 0 ∷ 0 ∷ 0 ∷ []
command_numbers (command.Run n) = 3 ∷ n ∷ 0 ∷ 0 ∷ 0 ∷ 0 ∷ 0 ∷ 0 ∷ 0 ∷ 0 ∷ 0 ∷ []
command_numbers (command.RunToException n) = 4 ∷ n ∷ 0 ∷ 0 ∷ 0 ∷ 0 ∷ 0 ∷ 0 ∷ 0 ∷ 0 ∷ 0 ∷ []
command_numbers (command.Step n) = 5 ∷ n ∷ 0 ∷ 0 ∷ 0 ∷ 0 ∷ 0 ∷ 0 ∷ 0 ∷ 0 ∷ 0 ∷ []
command_numbers (command.Back n) = 6 ∷ n ∷ 0 ∷ 0 ∷ 0 ∷ 0 ∷ 0 ∷ 0 ∷ 0 ∷ 0 ∷ 0 ∷ []
command_numbers (command.Blame n) = 7 ∷ n ∷ 0 ∷ 0 ∷ 0 ∷ 0 ∷ 0 ∷ 0 ∷ 0 ∷ 0 ∷ 0 ∷ []
command_numbers (command.Before n) = 8 ∷ n ∷ 0 ∷ 0 ∷ 0 ∷ 0 ∷ 0 ∷ 0 ∷ 0 ∷ 0 ∷ 0 ∷ []
command_numbers command.Registers = 9 ∷ 0 ∷ 0 ∷ 0 ∷ 0 ∷ 0 ∷ 0 ∷ 0 ∷ 0 ∷ 0 ∷ 0 ∷ []
command_numbers command.Cp0 = 10 ∷ 0 ∷ 0 ∷ 0 ∷ 0 ∷ 0 ∷ 0 ∷ 0 ∷ 0 ∷ 0 ∷ 0 ∷ []
command_numbers command.Tlb = 11 ∷ 0 ∷ 0 ∷ 0 ∷ 0 ∷ 0 ∷ 0 ∷ 0 ∷ 0 ∷ 0 ∷ 0 ∷ []
command_numbers command.Clocks = 12 ∷ 0 ∷ 0 ∷ 0 ∷ 0 ∷ 0 ∷ 0 ∷ 0 ∷ 0 ∷ 0 ∷ 0 ∷ []
command_numbers command.Printers = 13 ∷ 0 ∷ 0 ∷ 0 ∷ 0 ∷ 0 ∷ 0 ∷ 0 ∷ 0 ∷ 0 ∷ 0 ∷ []
command_numbers command.Station = 14 ∷ 0 ∷ 0 ∷ 0 ∷ 0 ∷ 0 ∷ 0 ∷ 0 ∷ 0 ∷ 0 ∷ 0 ∷ []
command_numbers (command.Paper n) = 15 ∷ n ∷ 0 ∷ 0 ∷ 0 ∷ 0 ∷ 0 ∷ 0 ∷ 0 ∷ 0 ∷ 0 ∷ []
command_numbers command.Papers = 16 ∷ 0 ∷ 0 ∷ 0 ∷ 0 ∷ 0 ∷ 0 ∷ 0 ∷ 0 ∷ 0 ∷ 0 ∷ []
command_numbers (command.Examine l) = look_numbers l
command_numbers (command.Compare name) = 18 ∷ name.from ∷ name.to ∷ 0 ∷ 0 ∷ 0 ∷ 0 ∷ 0 ∷ 0 ∷ 0 ∷ 0 ∷ []
command_numbers command.Save = 19 ∷ 0 ∷ 0 ∷ 0 ∷ 0 ∷ 0 ∷ 0 ∷ 0 ∷ 0 ∷ 0 ∷ 0 ∷ []
command_numbers command.Restore = 20 ∷ 0 ∷ 0 ∷ 0 ∷ 0 ∷ 0 ∷ 0 ∷ 0 ∷ 0 ∷ 0 ∷ 0 ∷ []
command_numbers command.Quit = 21 ∷ 0 ∷ 0 ∷ 0 ∷ 0 ∷ 0 ∷ 0 ∷ 0 ∷ 0 ∷ 0 ∷ 0 ∷ []
command_numbers command.Abandon = 22 ∷ 0 ∷ 0 ∷ 0 ∷ 0 ∷ 0 ∷ 0 ∷ 0 ∷ 0 ∷ 0 ∷ 0 ∷ []
command_numbers (command.Help t) = 23 ∷ topic_number t ∷ 0 ∷ 0 ∷ 0 ∷ 0 ∷ 0 ∷ 0 ∷ 0 ∷ 0 ∷ 0 ∷ []

-- a line that is refused is told as 24 and the place
abbrev pub answer_numbers : Result Command ℕ → List ℕ
answer_numbers (Ok c) = command_numbers c
answer_numbers (Err place) = 24 ∷ place ∷ 0 ∷ 0 ∷ 0 ∷ 0 ∷ 0 ∷ 0 ∷ 0 ∷ 0 ∷ 0 ∷ []
