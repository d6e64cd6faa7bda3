-- `marks::onward::forget` meets its contract: a slot is free, or the next one holds the oldest record.
use Rattle.std.proofs.Common.{ℕ, List, ap, ◌∙◌, arith}
use Rattle.clock.specs.Tick.{time_of}
use Rattle.ring.specs.Slots.{slot_back}
use Rattle.ring.proofs.Slots.{slot_part}
use Rattle.record.specs.Layout.{record_of}
use Rattle.journal.specs.Journal.{slots_of, ring_of}
use Rattle.frames.specs.Bytes.{whole}
use Rattle.frames.proofs.Answers.{wraps_back}
use Rattle.marks.proofs.Answers.{forgets_room, forgets_full}
use Rattle.marks.proofs.onward.forget.Goals as goal

pub returns-then-mark-slots : goal.returns-then-mark-slots
returns-then-mark-slots c =
    let a = c.args in
    forgets_room (ring_of a.mark a.journal.now) (time_of a.clock) a.index.now (slots_of a.journal.now) c.if-mark-slots.true

pub returns : goal.returns
returns c =
    let a = c.args in
    let journal = a.journal.now in
    let slots = slots_of journal in
    let wrapped = c.wrapping_sub_u64-gone in
    let gone = wraps_back wrapped.result c.time.result slots (omega arith) (omega arith) wrapped.ensures.value in
    forgets_full (ring_of a.mark journal) (time_of a.clock) a.index.now slots wrapped.result c.saved.result _
    c.if-mark-slots.false c.requires.journal_nonzero
    (gone ∙ ap (λ (t : ℕ). slot_back whole t slots) c.time.ensures)
    (c.saved.ensures ∙ ap (λ (l : List ℕ). (record_of l).saved) (slot_part 512 journal a.mark.next_slot))
    c.forget_saved.ensures
