-- The form of `new`: the settings in their order, each with the value that it has where it is not named.
use Rattle.std.specs.Prelude.{cond, List, ℕ}
use Rattle.forms.specs.Words as words
use Rattle.piece.specs.Mark.{gap_of, end_of, word_of, number_in}
use Rattle.piece.specs.Behind.{named_of}
use Rattle.piece.specs.declared.mark.Mark.{Mark}
use Rattle.piece.specs.declared.mark.Found.{Found}
use Rattle.piece.specs.declared.mark.Span.{Span}
use Rattle.forms.specs.declared.kinds.Fresh.{Fresh}

-- a setting that was tried with the mark `tried`
abbrev pub settled_of : List ℕ → (m tried : Mark) → ℕ → Found ℕ
settled_of line m tried or =
    cond tried.fits (number_in line (gap_of line tried)) (record { value = or; mark = record { at = m.at; fits = m.fits; reached = tried.reached } })

unfoldable pub setting_of : List ℕ → Mark → List ℕ → ℕ → Found ℕ
setting_of line m word or = settled_of line m (word_of line (gap_of line m) word) or

unfoldable pub file_of : List ℕ → Mark → List ℕ → Found Span
file_of line m word = named_of line (word_of line (gap_of line m) word)

-- the settings and the files that were read
abbrev pub made_of : List ℕ → (ram paper journal scale delay printers : Found ℕ) → (execution bootstrap : Found Span) → Found Fresh
made_of line ram paper journal scale delay printers execution bootstrap = record {
  mark = end_of line bootstrap.mark;
  value = record {
    ram = ram.value;
    paper = paper.value;
    journal = journal.value;
    scale = scale.value;
    delay = delay.value;
    printers = printers.value;
    execution = execution.value;
    bootstrap = bootstrap.value;
  };
}

-- the form from behind its last setting or file on, back to its first word
unfoldable pub after_execution : List ℕ → (ram paper journal scale delay printers : Found ℕ) → Found Span → Found Fresh
after_execution line ram paper journal scale delay printers execution =
    made_of line ram paper journal scale delay printers execution (file_of line execution.mark words.bootstrap)

unfoldable pub after_printers : List ℕ → (ram paper journal scale delay printers : Found ℕ) → Found Fresh
after_printers line ram paper journal scale delay printers =
    after_execution line ram paper journal scale delay printers (file_of line printers.mark words.execution)

unfoldable pub after_delay : List ℕ → (ram paper journal scale delay : Found ℕ) → Found Fresh
after_delay line ram paper journal scale delay = after_printers line ram paper journal scale delay (setting_of line delay.mark words.printers 1)

unfoldable pub after_scale : List ℕ → (ram paper journal scale : Found ℕ) → Found Fresh
after_scale line ram paper journal scale = after_delay line ram paper journal scale (setting_of line scale.mark words.delay 100)

unfoldable pub after_journal : List ℕ → (ram paper journal : Found ℕ) → Found Fresh
after_journal line ram paper journal = after_scale line ram paper journal (setting_of line journal.mark words.scale 1)

unfoldable pub after_paper : List ℕ → (ram paper : Found ℕ) → Found Fresh
after_paper line ram paper = after_journal line ram paper (setting_of line paper.mark words.journal 4096)

unfoldable pub after_ram : List ℕ → (ram : Found ℕ) → Found Fresh
after_ram line ram = after_paper line ram (setting_of line ram.mark words.paper 8192)

unfoldable pub making_of : List ℕ → Mark → Found Fresh
making_of line m = after_ram line (setting_of line (word_of line m words.new) words.ram 64)
