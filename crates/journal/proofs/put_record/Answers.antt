-- `journal::put_record` meets its contract: what the part that was lent leaves in the whole is `put` of the ring.
use Prim.Native.Nat.{ℕ, ◌+◌, ◌-◌, ◌*◌, ◌/◌}
use native.Mathlib.Omega.{arith}
use mathlib.Core.List.{List}
use mathlib.Core.Path.{◌≡◌, sym, ap, ◌∙◌}
use lib.ListN.{length}
use borrow.Rule.Slice.PartMut.{put_mid}
use Rattle.ring.specs.Slots.{slot}
use Rattle.ring.proofs.Slots.{put_part, slot_part, length_slot}
use Rattle.record.specs.declared.Record.{Record}
use Rattle.record.specs.Layout.{begun_in}
use Rattle.record.proofs.Later.{length_begun}
use Rattle.held.proofs.Board.{length_printers}
use Rattle.journal.specs.Journal.{held_record}
use Rattle.journal.proofs.HeldRecord.{laid_held}
use Rattle.journal.proofs.put_record.Goals as goal

pub returns : goal.returns
returns c =
    let journal = c.args.journal.now in
    let at : ℕ = 512 * c.args.next in
    let core = c.args.core.now in
    let words = c.args.words.now in
    let r : Record = held_record core c.args.timer c.args.pending c.args.paper words in
    let old : List ℕ = slot 512 journal c.args.next in
    let same = laid_held core c.args.timer c.args.pending c.args.paper words old c.requires.core_len c.requires.words_len in
    let room : length old ≡ 512 = length_slot 512 (length journal / 512) journal (omega arith) c.args.next c.requires.next_in_bounds in
    let long : length (begun_in r old) ≡ 512 = length_begun r old (length_printers words) room in
    ap (put_mid at (at + 512 - at) journal) (rw (slot_part 512 journal c.args.next) at c.encode.ensures ∙ same)
    ∙ put_part journal at (at + 512) (begun_in r old) (ap (λ (n : ℕ). at + n) (sym long))
