-- `big::get_words` meets its contract. The invariant: the words passed are those of the bytes, and the rest is as it was.
use Rattle.std.proofs.Common.{◌≡◌, ℕ, ◌*◌, ◌++◌, drop}
use Rattle.word.specs.Lists.{tabulate}
use Rattle.word.specs.Big.{word_at}
use Rattle.word.proofs.big.get_words.Given as goal

abbrev pub invariant-loop-i : goal.invariant-loop-i
invariant-loop-i l = l.words ≡ tabulate l.i (λ (k : ℕ). word_at l.bytes (4 * k)) ++ drop l.i l.initial.words
