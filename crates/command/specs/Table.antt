-- The table of all forms.
use Rattle.std.specs.Prelude.{true, false, List, [], ◌∷◌, ℕ, ◌-◌, ◌^◌}
use Rattle.forms.specs.Words as words
use Rattle.piece.specs.Mark.{end_of, word_of}
use Rattle.piece.specs.Behind.{counted_of, named_of, past_of}
use Rattle.forms.specs.Form.{best_of, plain_of, numbered_of, with_number}
use Rattle.forms.specs.Fresh.{making_of}
use Rattle.forms.specs.Look.{looking_of}
use Rattle.forms.specs.Help.{helping_of}
use Rattle.forms.specs.declared.form.Form.{Form}
use Rattle.forms.specs.declared.form.Form.TheVariants.{New, Load, Compare, Save, Restore, Quit, Abandon, Run, RunToException, Step, Back, Blame, Before, Registers, Cp0, Tlb, Clocks, Printers, Station, Paper, Papers, Examine, Physical}
use Rattle.piece.specs.declared.mark.Mark.{Mark}
use Rattle.forms.specs.declared.form.Reading.{Reading}

-- a form that is only judged here: what it holds is read where it counts
abbrev pub judged : Form → Mark → Reading
judged form m = record { mark = m; form = form; value = 0 }

-- load NAME ADDRESS
unfoldable pub load_of : List ℕ → Mark → Reading
load_of line m = with_number Load (counted_of line (named_of line (word_of line m words.load)).mark)

-- compare NAME
unfoldable pub compare_of : List ℕ → Mark → Reading
compare_of line m = judged Compare (end_of line (named_of line (word_of line m words.compare)).mark)

unfoldable pub station_of : List ℕ → Mark → Reading
station_of line m =
    best_of (judged New (making_of line m).mark)
    (load_of line m
    ∷ compare_of line m
    ∷ plain_of line m words.save Save 0
    ∷ plain_of line m words.restore Restore 0
    ∷ plain_of line m words.quit Quit 0
    ∷ plain_of line m words.abandon Abandon 0
    ∷ [])

-- run N, run exception, run exception N
unfoldable pub runs_of : List ℕ → Mark → Reading
runs_of line m =
    best_of (numbered_of line m words.run Run)
    (plain_of line (past_of line m words.run) words.exception RunToException (2 ^ 64 - 1)
    ∷ numbered_of line (past_of line m words.run) words.exception RunToException
    ∷ [])

unfoldable pub forward_of : List ℕ → Mark → Reading
forward_of line m =
    best_of (runs_of line m)
    (plain_of line m words.stepi Step 1
    ∷ numbered_of line m words.stepi Step
    ∷ plain_of line m words.si Step 1
    ∷ numbered_of line m words.si Step
    ∷ [])

unfoldable pub backward_of : List ℕ → Mark → Reading
backward_of line m =
    best_of (numbered_of line m words.back Back)
    (plain_of line m words.reverse_stepi Back 1
    ∷ numbered_of line m words.reverse_stepi Back
    ∷ plain_of line m words.rsi Back 1
    ∷ numbered_of line m words.rsi Back
    ∷ numbered_of line m words.blame Blame
    ∷ numbered_of line m words.before Before
    ∷ [])

-- behind `info`
unfoldable pub infos_of : List ℕ → Mark → Reading
infos_of line m =
    best_of (plain_of line m words.registers Registers 0)
    (plain_of line m words.cp0 Cp0 0
    ∷ plain_of line m words.tlb Tlb 0
    ∷ plain_of line m words.clocks Clocks 0
    ∷ plain_of line m words.printers Printers 0
    ∷ plain_of line m words.station Station 0
    ∷ [])

unfoldable pub views_of : List ℕ → Mark → Reading
views_of line m =
    best_of (infos_of line (past_of line m words.info))
    (plain_of line m words.paper Papers 0
    ∷ numbered_of line m words.paper Paper
    ∷ judged Examine (looking_of line m words.x false).mark
    ∷ judged Physical (looking_of line m words.xp true).mark
    ∷ [])

unfoldable pub forms_of : List ℕ → Mark → Reading
forms_of line m = best_of (station_of line m) (forward_of line m ∷ backward_of line m ∷ views_of line m ∷ helping_of line m ∷ [])
