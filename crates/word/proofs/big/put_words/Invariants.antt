-- `big::put_words` meets its contract. The invariant: the bytes of the words passed are stored, and nothing else.
use Rattle.std.proofs.Common.{◌≡◌, take}
use Rattle.std.proofs.lemmas.List.Edits.{sets}
use Rattle.word.specs.Lists.{flat}
use Rattle.word.specs.Big.{word_bytes}
use Rattle.word.proofs.big.put_words.Given as goal

abbrev pub invariant-loop-i : goal.invariant-loop-i
invariant-loop-i l = l.bytes ≡ sets l.initial.bytes l.at (flat word_bytes (take l.i l.words))
