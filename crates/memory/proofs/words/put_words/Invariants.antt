-- `memory::words::put_words` meets its contract. The invariant: the bytes of the words passed are stored, and nothing else.
use Rattle.std.proofs.Common.{◌≡◌, take}
use Rattle.std.proofs.lemmas.List.Edits.{sets}
use Rattle.word.specs.Lists.{flat}
use Rattle.word.specs.Little.{to_bytes}
use Rattle.memory.proofs.words.put_words.Given as goal

abbrev pub invariant-loop-i : goal.invariant-loop-i
invariant-loop-i l = l.m ≡ sets l.initial.m l.at (flat (to_bytes 4) (take l.i l.words))
