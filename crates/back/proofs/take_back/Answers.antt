-- `back::take_back` meets its contract: what can be taken back is undone, and the two words of the journal are turned back.
-- `done_says`: what was asked says that so many are on hand, and that their records are well formed.
use mathlib.Core.Path.{refl}
use native.Mathlib.Nat.{le_trans}
use native.Mathlib.Omega.{arith}
use lib.ListN.{length}
use Rattle.turn.specs.Buffers.{beside_back}
use Rattle.back.proofs.Answers.{done_says, takes_done}
use Rattle.back.proofs.take_back.Goals as goal

pub undo_all-before-requires : goal.undo_all-before-requires
undo_all-before-requires c =
    let a = c.args in
    let asked = done_says a.steps a.m (length a.ram.now) (length a.paper.now) a.journal.now c.requires.journal_value in
    let sound = c.requires.fits.ready.sound in
    record {
      next_bound = sound.place;
      k_le_hand = (asked.0, sound.most);
      index_len = omega (arith, c.requires.fits.framed.sixteen_each);
      paper_value = asked.1;
    }

pub overflow_sub-fewer : goal.overflow_sub-fewer
overflow_sub-fewer c =
    let a = c.args in
    (done_says a.steps a.m (length a.ram.now) (length a.paper.now) a.journal.now c.requires.journal_value).0

pub slot_back-turned-requires : goal.slot_back-turned-requires
slot_back-turned-requires c =
    let a = c.args in
    let sound = c.requires.fits.ready.sound in (
      sound.place,
      le_trans (done_says a.steps a.m (length a.ram.now) (length a.paper.now) a.journal.now c.requires.journal_value).0 sound.most,
    )

-- a journal has at most 32768 slots
pub overflow_cast-turned : goal.overflow_cast-turned
overflow_cast-turned c = omega (arith, c.slot_back-turned.ensures.1, c.requires.fits.ready.few)

pub returns : goal.returns
returns c =
    let a = c.args in
    let asked = done_says a.steps a.m (length a.ram.now) (length a.paper.now) a.journal.now c.requires.journal_value in
    let is = c.undo_all-before.ensures in
    takes_done a.steps a.m (beside_back a.ram.now a.paper.now a.journal.now a.index.now) asked.0 asked.1
    c.undo_all-before.result _ _ _ _ _ is.paper_after.0 is.index_after refl c.slot_back-turned.ensures.0
