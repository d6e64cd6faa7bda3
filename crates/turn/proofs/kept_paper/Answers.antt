-- `turn::kept_paper` meets its contract.
use mathlib.Core.Path.{sym}
use Rattle.printer.specs.Tick.{room_of}
use Rattle.printer.proofs.Notes.{silent_note}
use Rattle.held.specs.Board.{printers_in}
use Rattle.held.proofs.Soon.{none_prints}
use Rattle.turn.proofs.kept_paper.Goals as goal

pub returns-then-held-eq1 : goal.returns-then-held-eq1
returns-then-held-eq1 c = c.saved_paper.ensures

pub returns : goal.returns
returns c =
    let words = c.args.words.now in
    let paper = c.args.paper.now in
    sym (silent_note (printers_in words) paper (none_prints c.args.held.soon words c.if-held-eq1.false c.requires.waits (room_of paper)))
