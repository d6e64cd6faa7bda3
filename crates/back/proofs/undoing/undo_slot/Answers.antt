-- `back::undoing::undo_slot` meets its contract, from what `decode`, `give_back` and `undo` ensure.
use Prim.Native.Nat.{ℕ}
use mathlib.Core.Path.{ap, ◌∙◌}
use Rattle.clock.specs.Tick.{time_of}
use Rattle.record.specs.declared.Record.{Record}
use Rattle.marks.specs.Steps.{given_back_of}
use Rattle.back.proofs.undoing.undo_slot.Goals as goal

pub give_back-requires : goal.give_back-requires
give_back-requires c = c.requires.index_len

pub undo-requires : goal.undo-requires
undo-requires c =
    rw c.decode-r.ensures c.requires.undoable

pub returns : goal.returns
returns c =
    let a = c.args in
    let is = c.undo.ensures in
    let said = c.decode-r.ensures in
    record {
      value = (is.0 ∙ rw said, is.1 ∙ rw said);
      index_after =
          c.give_back.ensures
          ∙ ap (λ (t : ℕ). given_back_of t a.hand c.decode-r.result.saved a.index.now) c.time.ensures
          ∙ ap (λ (r : Record). given_back_of (time_of a.m.board.clock) a.hand r.saved a.index.now) said;
    }
