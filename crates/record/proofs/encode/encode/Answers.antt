-- `record::encode::encode` meets its contract: the four parts stored one after the other, by `laid`.
use mathlib.Core.Path.{refl}
use Rattle.record.proofs.Laid.{laid}
use Rattle.record.proofs.encode.encode.Goals as goal

pub returns : goal.returns
returns c =
    laid c.args.core.now _ c.args.words.now c.args.slot.now c.requires.core_len refl c.requires.words_len c.requires.slot_len
    c.small_words-small.ensures
    c.put_words.ensures
    c.put_words-2.ensures
    c.put_words-3.ensures
    c.put_words-4.ensures
