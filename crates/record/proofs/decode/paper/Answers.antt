-- `record::decode::paper` meets its contract: two words stored over eight bytes.
use mathlib.Core.Path.{refl}
use Rattle.record.specs.Layout.{slot_word}
use Rattle.record.proofs.Stored.{paper_read}
use Rattle.record.proofs.decode.paper.Goals as goal

pub returns : goal.returns
returns c =
    let put = c in
    let words = put in
    let start = words in
    paper_read (slot_word start.args.slot.now) _ refl c.word-3.ensures words.word.ensures words.word-2.ensures put.put_words.ensures
