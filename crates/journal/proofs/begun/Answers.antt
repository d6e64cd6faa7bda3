-- `journal::begun` meets its contract: with no slots nothing is written, else the record is put at the next slot.
use mathlib.Core.Path.{sym, ◌∙◌}
use native.Mathlib.Omega.{arith}
use Rattle.journal.specs.Journal.{held_record}
use Rattle.journal.proofs.TwoParts.{begun_none, begun_some}
use Rattle.journal.proofs.begun.Goals as goal

pub returns-then-slots-eq0 : goal.returns-then-slots-eq0
returns-then-slots-eq0 c =
    let args = c.args in
    let r = held_record args.core.now args.timer args.pending args.paper args.words.now in
    sym (begun_none args.mark args.journal.now r c.if-slots-eq0.true)

pub returns : goal.returns
returns c =
    let args = c.args in
    let r = held_record args.core.now args.timer args.pending args.paper args.words.now in
    c.put_record.ensures ∙ sym (begun_some args.mark args.journal.now r (omega arith))
