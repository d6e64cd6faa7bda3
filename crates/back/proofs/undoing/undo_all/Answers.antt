-- `back::undoing::undo_all` meets its contract. The invariant is `Undoing`: machine, RAM, paper and index are where undoing the records passed leads.
use borrow.Author.Rules.{rules}
use mathlib.Core.Path.{refl, ap, ◌∙◌}
use native.Mathlib.Omega.{arith}
use Rattle.state.specs.declared.machine.Machine.{Machine}
use Rattle.back.proofs.Turns.{undoing_start, undoing_tells, undoing_more, undoing_end, side_end}
use Rattle.back.proofs.undoing.undo_all.Goals as goal

pub loop-j-init : goal.loop-j-init
loop-j-init c = (undoing_start _ _ _ _ _ _, refl)

pub slot_back-at-requires : goal.slot_back-at-requires
slot_back-at-requires c =
    (c.requires.next_bound, omega (arith, c.loop-j-test.true, c.requires.k_le_hand))

pub overflow_sub-hand : goal.overflow_sub-hand
overflow_sub-hand c =
    omega (arith, c.loop-j-test.true, c.requires.k_le_hand)

pub undo_slot-before-requires : goal.undo_slot-before-requires
undo_slot-before-requires c =
    let inv = c.loop-j.invariant.0 in
    record {
      slot_len = search rules;
      index_len = omega (arith, inv.index, c.requires.index_len);
      undoable = undoing_tells inv c.loop-j-test.true c.slot_back-at.result c.slot_back-at.ensures.0 c.requires.paper_value;
    }

pub loop-j-preserved : goal.loop-j-preserved
loop-j-preserved c =
    let is = c.undo_slot-before.ensures in
    let inv = c.loop-j.invariant in (
      undoing_more inv.0 c.loop-j-test.true c.slot_back-at.result c.slot_back-at.ensures.0 _ _ is.value.1 is.index_after
          c.undo_slot-before.auto.index,
      ap (λ (b : Machine). b.journal) is.value.0 ∙ inv.1,
    )

pub shape_of-ram : goal.shape_of-ram
shape_of-ram c = c.loop-j.invariant.0.ram

pub shape_of-paper : goal.shape_of-paper
shape_of-paper c = c.loop-j.invariant.0.paper

pub shape_of-index : goal.shape_of-index
shape_of-index c = c.loop-j.invariant.0.index

pub returns : goal.returns
returns c =
    let inv = c.loop-j.invariant in
    record {
      paper_after = (undoing_end inv.0 c.loop-j-test.false, inv.1);
      index_after = side_end inv.0 c.loop-j-test.false;
    }
