-- `big::put_words` meets its contract. The invariant: the bytes of the words passed are stored, and nothing else.
use Rattle.std.proofs.Common.{◌≡◌, refl, ◌∙◌, length, arith}
use lib.Seq.{take-length}
use Rattle.word.specs.Big.{word_bytes}
use Rattle.word.proofs.Lists.{store_step}
use Rattle.word.proofs.big.put_words.Goals as goal

pub loop-i-preserved : goal.loop-i-preserved
loop-i-preserved c =
    let l = c.loop-i in
    c.put_word.ensures
    ∙ rw l.invariant (store_step 4 word_bytes (λ w. refl) c.args.words.now 0 c.args.bytes.now c.args.at l.i _ (omega arith) refl)

pub returns : goal.returns
returns c =
    let l = c.loop-i in
    let all : l.i ≡ length c.args.words.now = omega arith in
    l.invariant ∙ rw (all, take-length c.args.words.now)
