-- `journal::ended` meets its contract: with no slots nothing moves, else the three parts of the ring by `ended_as`.
use native.Mathlib.Omega.{arith}
use Prim.Native.Nat.{ℕ, ◌+◌, ◌*◌}
use mathlib.Core.Path.{sym}
use Rattle.ring.proofs.Slots.{next_below}
use Rattle.journal.specs.Journal.{slots_of}
use Rattle.journal.proofs.TwoParts.{ended_none, ended_as, stored_both}
use Rattle.journal.proofs.ended.Goals as goal

pub returns-then-slots-eq0 : goal.returns-then-slots-eq0
returns-then-slots-eq0 c =
    sym (ended_none c.args.mark c.args.journal.now c.args.s c.if-slots-eq0.true)

pub returns : goal.returns
returns c =
    let at : ℕ = 512 * c.args.mark.next_slot + 236 in
    ended_as c.args.mark c.args.journal.now c.args.s _ (omega arith)
    (stored_both c.args.journal.now at (512 * c.args.mark.next_slot + 252) c.args.s (omega arith) c.saved_words.ensures c.put_words.ensures c.put_words-2.ensures)
    c.min.ensures c.next_slot.ensures
