-- `words::packed` meets its contract. The invariant: the words of the disks passed are stored, and nothing else.
use mathlib.Core.Path.{◌≡◌}
use Prim.Native.Nat.{◌≤◌}
use lib.ListN.{take}
use lib.Seq.{sets}
use Rattle.word.specs.Lists.{flat}
use Rattle.disks.specs.Words.{disk_words}
use Rattle.disks.proofs.words.packed.Given as goal

abbrev pub invariant-loop-n : goal.invariant-loop-n
invariant-loop-n l = (l.n ≤ 8) × (l.words ≡ sets l.initial.words 0 (flat disk_words (take l.n l.d-items)))
