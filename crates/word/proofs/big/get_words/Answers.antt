-- `big::get_words` meets its contract. The invariant: the words passed are those of the bytes, and the rest is as it was.
use Rattle.std.proofs.Common.{ℕ, ◌*◌, arith}
use Rattle.word.specs.Big.{word_at}
use Rattle.word.proofs.Lists.{fill_step, fill_end}
use Rattle.word.proofs.big.get_words.Goals as goal

pub loop-i-preserved : goal.loop-i-preserved
loop-i-preserved c =
    let l = c.loop-i in
    let a = c.args in
    let step = fill_step (λ (k : ℕ). word_at a.bytes.now (4 * k)) a.words.now l.words l.i (omega arith) l.invariant in
    rw c.word_at.ensures step

pub returns : goal.returns
returns c =
    let l = c.loop-i in
    let a = c.args in
    fill_end (λ (k : ℕ). word_at a.bytes.now (4 * k)) a.words.now l.words l.i (omega arith) l.invariant
