-- Lines and the commands that they are read as, computed by the definitions.
use mathlib.Core.Path.{◌≡◌, refl}
use mathlib.Core.Bool.{true, false}
use mathlib.Core.List.{List, [], ◌∷◌, map}
use Prim.Native.Nat.{ℕ}
use Rattle.std.specs.Prelude.{Result, Ok, Err}
use Rattle.text.specs.Head.{head_of}
use Rattle.text.specs.Digit.{digit_of, value_from}
use Rattle.text.specs.Number.{digits_of, digits_at, is_hex, number_of}
use Rattle.piece.specs.Mark.{stands_of, agreed_of, gap_of, end_of, word_of, number_in}
use Rattle.forms.specs.Form.{better_of}
use Rattle.forms.specs.Fresh.{setting_of, file_of, after_execution, after_printers, after_delay, after_scale, after_journal, after_paper, after_ram, making_of}
use Rattle.forms.specs.Look.{format_of, unit_of, shape_of, looking_of}
use Rattle.forms.specs.Help.{of_machine, of_station, helping_of}
use Rattle.command.specs.Table.{load_of, compare_of, runs_of, station_of, forward_of, backward_of, infos_of, views_of, forms_of}
use Rattle.command.specs.Line.{command_of}
use Rattle.command.specs.declared.kinds.Command.{Command}
use Rattle.command.specs.declared.kinds.Command.TheVariants.{Nothing, New, Load, Run, RunToException, Step, Back, Blame, Before, Registers, Tlb, Papers, Paper, Examine, Compare, Abandon, Help}
use Rattle.forms.specs.declared.kinds.Format.TheVariants.{Hex, Signed}
use Rattle.forms.specs.declared.kinds.Unit.TheVariants.{Byte, Word}
use Rattle.forms.specs.declared.kinds.Topic.TheVariants as topic

pub record Row : Type 0 where
  pub line : List ℕ
  pub command : Result Command ℕ

unfoldable pub row : List ℕ → Result Command ℕ → Row
row l c = record { line = l; command = c }

unfoldable pub table : List Row
table =
    row ([]) (Ok Nothing)  -- ``
    ∷ row (32 ∷ 32 ∷ 32 ∷ 35 ∷ 32 ∷ 97 ∷ 32 ∷ 110 ∷ 111 ∷ 116 ∷ 101 ∷ []) (Ok Nothing)  -- `   # a note`
    ∷ row (110 ∷ 101 ∷ 119 ∷ 32 ∷ 101 ∷ 120 ∷ 101 ∷ 99 ∷ 117 ∷ 116 ∷ 105 ∷ 111 ∷ 110 ∷ 32 ∷ 101 ∷ 32 ∷ 98 ∷ 111 ∷ 111 ∷ 116 ∷ 115 ∷ 116 ∷ 114 ∷ 97 ∷ 112 ∷ 32 ∷ 98 ∷ []) (Ok (New (record { ram = 64; paper = 8192; journal = 4096; scale = 1; delay = 100; printers = 1; execution = record { from = 14; to = 15 }; bootstrap = record { from = 26; to = 27 } })))  -- `new execution e bootstrap b`
    ∷ row (110 ∷ 101 ∷ 119 ∷ 32 ∷ 114 ∷ 97 ∷ 109 ∷ 32 ∷ 48 ∷ 120 ∷ 49 ∷ 48 ∷ 32 ∷ 100 ∷ 101 ∷ 108 ∷ 97 ∷ 121 ∷ 32 ∷ 55 ∷ 32 ∷ 101 ∷ 120 ∷ 101 ∷ 99 ∷ 117 ∷ 116 ∷ 105 ∷ 111 ∷ 110 ∷ 32 ∷ 101 ∷ 32 ∷ 98 ∷ 111 ∷ 111 ∷ 116 ∷ 115 ∷ 116 ∷ 114 ∷ 97 ∷ 112 ∷ 32 ∷ 98 ∷ []) (Ok (New (record { ram = 16; paper = 8192; journal = 4096; scale = 1; delay = 7; printers = 1; execution = record { from = 31; to = 32 }; bootstrap = record { from = 43; to = 44 } })))  -- `new ram 0x10 delay 7 execution e bootstrap b`
    ∷ row (108 ∷ 111 ∷ 97 ∷ 100 ∷ 32 ∷ 112 ∷ 114 ∷ 111 ∷ 103 ∷ 46 ∷ 98 ∷ 105 ∷ 110 ∷ 32 ∷ 48 ∷ 120 ∷ 49 ∷ 48 ∷ 48 ∷ 48 ∷ []) (Ok (Load (record { from = 5; to = 13 }) 4096))  -- `load prog.bin 0x1000`
    ∷ row (114 ∷ 117 ∷ 110 ∷ 32 ∷ 49 ∷ 48 ∷ 48 ∷ 48 ∷ []) (Ok (Run 1000))  -- `run 1000`
    ∷ row (114 ∷ 117 ∷ 110 ∷ 32 ∷ 101 ∷ 120 ∷ 99 ∷ 101 ∷ 112 ∷ 116 ∷ 105 ∷ 111 ∷ 110 ∷ []) (Ok (RunToException 18446744073709551615))  -- `run exception`
    ∷ row (114 ∷ 117 ∷ 110 ∷ 32 ∷ 101 ∷ 120 ∷ 99 ∷ 101 ∷ 112 ∷ 116 ∷ 105 ∷ 111 ∷ 110 ∷ 32 ∷ 57 ∷ []) (Ok (RunToException 9))  -- `run exception 9`
    ∷ row (115 ∷ 116 ∷ 101 ∷ 112 ∷ 105 ∷ []) (Ok (Step 1))  -- `stepi`
    ∷ row (32 ∷ 115 ∷ 105 ∷ 32 ∷ 32 ∷ 51 ∷ 32 ∷ []) (Ok (Step 3))  -- ` si  3 `
    ∷ row (98 ∷ 97 ∷ 99 ∷ 107 ∷ 32 ∷ 49 ∷ 50 ∷ []) (Ok (Back 12))  -- `back 12`
    ∷ row (114 ∷ 115 ∷ 105 ∷ []) (Ok (Back 1))  -- `rsi`
    ∷ row (114 ∷ 101 ∷ 118 ∷ 101 ∷ 114 ∷ 115 ∷ 101 ∷ 45 ∷ 115 ∷ 116 ∷ 101 ∷ 112 ∷ 105 ∷ 32 ∷ 50 ∷ []) (Ok (Back 2))  -- `reverse-stepi 2`
    ∷ row (98 ∷ 108 ∷ 97 ∷ 109 ∷ 101 ∷ 32 ∷ 48 ∷ 120 ∷ 50 ∷ 48 ∷ []) (Ok (Blame 32))  -- `blame 0x20`
    ∷ row (98 ∷ 101 ∷ 102 ∷ 111 ∷ 114 ∷ 101 ∷ 32 ∷ 51 ∷ 50 ∷ []) (Ok (Before 32))  -- `before 32`
    ∷ row (105 ∷ 110 ∷ 102 ∷ 111 ∷ 32 ∷ 114 ∷ 101 ∷ 103 ∷ 105 ∷ 115 ∷ 116 ∷ 101 ∷ 114 ∷ 115 ∷ []) (Ok Registers)  -- `info registers`
    ∷ row (105 ∷ 110 ∷ 102 ∷ 111 ∷ 32 ∷ 116 ∷ 108 ∷ 98 ∷ []) (Ok Tlb)  -- `info tlb`
    ∷ row (112 ∷ 97 ∷ 112 ∷ 101 ∷ 114 ∷ []) (Ok Papers)  -- `paper`
    ∷ row (112 ∷ 97 ∷ 112 ∷ 101 ∷ 114 ∷ 32 ∷ 55 ∷ []) (Ok (Paper 7))  -- `paper 7`
    ∷ row (120 ∷ 32 ∷ 48 ∷ []) (Ok (Examine (record { count = 1; format = Hex; unit = Word; address = 0; physical = false })))  -- `x 0`
    ∷ row (120 ∷ 112 ∷ 47 ∷ 49 ∷ 54 ∷ 100 ∷ 98 ∷ 32 ∷ 52 ∷ []) (Ok (Examine (record { count = 16; format = Signed; unit = Byte; address = 4; physical = true })))  -- `xp/16db 4`
    ∷ row (99 ∷ 111 ∷ 109 ∷ 112 ∷ 97 ∷ 114 ∷ 101 ∷ 32 ∷ 111 ∷ 116 ∷ 104 ∷ 101 ∷ 114 ∷ []) (Ok (Compare (record { from = 8; to = 13 })))  -- `compare other`
    ∷ row (97 ∷ 98 ∷ 97 ∷ 110 ∷ 100 ∷ 111 ∷ 110 ∷ []) (Ok Abandon)  -- `abandon`
    ∷ row (104 ∷ 101 ∷ 108 ∷ 112 ∷ []) (Ok (Help topic.All))  -- `help`
    ∷ row (104 ∷ 101 ∷ 108 ∷ 112 ∷ 32 ∷ 120 ∷ []) (Ok (Help topic.Examine))  -- `help x`
    ∷ row (105 ∷ 110 ∷ 111 ∷ 102 ∷ []) (Err 2)  -- `inof`
    ∷ row (114 ∷ 117 ∷ 110 ∷ []) (Err 3)  -- `run`
    ∷ row (114 ∷ 117 ∷ 110 ∷ 32 ∷ 53 ∷ 120 ∷ []) (Err 5)  -- `run 5x`
    ∷ row (114 ∷ 117 ∷ 110 ∷ 32 ∷ 48 ∷ 120 ∷ []) (Err 6)  -- `run 0x`
    ∷ row (110 ∷ 101 ∷ 119 ∷ 32 ∷ 112 ∷ 114 ∷ []) (Err 6)  -- `new pr`
    ∷ row (120 ∷ 47 ∷ 51 ∷ 113 ∷ 32 ∷ 48 ∷ []) (Err 3)  -- `x/3q 0`
    ∷ row (114 ∷ 117 ∷ 110 ∷ 32 ∷ 49 ∷ 56 ∷ 52 ∷ 52 ∷ 54 ∷ 55 ∷ 52 ∷ 52 ∷ 48 ∷ 55 ∷ 51 ∷ 55 ∷ 48 ∷ 57 ∷ 53 ∷ 53 ∷ 49 ∷ 54 ∷ 49 ∷ 54 ∷ []) (Err 4)  -- `run 18446744073709551616`
    ∷ []

pub examples : map (λ r. command_of r.line) table ≡ map (λ r. r.command) table
unfolding row table head_of digit_of value_from digits_of digits_at is_hex number_of stands_of agreed_of gap_of end_of word_of number_in better_of setting_of file_of after_execution after_printers after_delay after_scale after_journal after_paper after_ram making_of format_of unit_of shape_of looking_of of_machine of_station helping_of load_of compare_of runs_of station_of forward_of backward_of infos_of views_of forms_of command_of
examples = refl
