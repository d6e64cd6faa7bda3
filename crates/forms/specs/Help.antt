-- The forms of `help`.
use Rattle.std.specs.Prelude.{List, [], ◌∷◌, ℕ}
use Rattle.piece.specs.Behind.{past_of}
use Rattle.piece.specs.declared.mark.Mark.{Mark}
use Rattle.forms.specs.Words as words
use Rattle.forms.specs.Form.{best_of, plain_of}
use Rattle.forms.specs.declared.kinds.Topic.{Topic}
use Rattle.forms.specs.declared.kinds.Topic.TheVariants as topic
use Rattle.forms.specs.declared.form.Form.TheVariants.{Help}
use Rattle.forms.specs.declared.form.Reading.{Reading}

abbrev pub about_of : List ℕ → Mark → List ℕ → Topic → Reading
about_of line m second t = plain_of line m second (Help t) 0

unfoldable pub of_machine : List ℕ → Mark → Reading
of_machine line m =
    best_of (about_of line m words.load topic.Load)
    (about_of line m words.run topic.Run
    ∷ about_of line m words.stepi topic.Step
    ∷ about_of line m words.back topic.Back
    ∷ about_of line m words.blame topic.Blame
    ∷ about_of line m words.before topic.Before
    ∷ about_of line m words.info topic.Info
    ∷ about_of line m words.paper topic.Paper
    ∷ [])

unfoldable pub of_station : List ℕ → Mark → Reading
of_station line m =
    best_of (about_of line m words.new topic.New)
    (about_of line m words.x topic.Examine
    ∷ about_of line m words.compare topic.Compare
    ∷ about_of line m words.save topic.Save
    ∷ about_of line m words.restore topic.Restore
    ∷ about_of line m words.quit topic.Quit
    ∷ about_of line m words.abandon topic.Abandon
    ∷ [])

-- `help` alone, or a word behind it
unfoldable pub helping_of : List ℕ → Mark → Reading
helping_of line m =
    best_of (about_of line m words.help topic.All) (of_machine line (past_of line m words.help) ∷ of_station line (past_of line m words.help) ∷ [])
