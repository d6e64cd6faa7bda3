-- `turn::begin` meets its contract.
use mathlib.Core.Path.{sym, ap, ◌∙◌}
use Rattle.printer.specs.Saved.{saved_paper_of}
use Rattle.printer.specs.declared.saved.SavedPaper.{SavedPaper}
use Rattle.held.specs.Board.{printers_in}
use Rattle.journal.specs.Journal.{held_record, begun_of}
use Rattle.turn.proofs.Steps.{not_begun}
use Rattle.turn.proofs.begin.Goals as goal

pub returns-then-journal-lt-SLOT : goal.returns-then-journal-lt-SLOT
returns-then-journal-lt-SLOT c =
    let a = c.args in
    let kept = saved_paper_of (printers_in a.words.now) a.paper.now in
    sym (not_begun a.mark (held_record a.core.now a.held.clock.timer a.held.pending kept a.words.now) a.journal.now c.if-journal-lt-SLOT.true)

pub kept_paper-kept-requires : goal.kept_paper-kept-requires
kept_paper-kept-requires c = c.requires.told

pub begun-requires : goal.begun-requires
begun-requires c = record { ready = c.requires.ready; core_len = c.requires.core_len; words_len = c.requires.told.forty }

pub returns : goal.returns
returns c =
    let a = c.args in
    c.begun.ensures
    ∙ ap (λ (k : SavedPaper). begun_of a.mark (held_record a.core.now a.held.clock.timer a.held.pending k a.words.now) a.journal.now) c.kept_paper-kept.ensures
