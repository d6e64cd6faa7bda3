-- `state::encode::row_words` meets its contract. The invariant: the words of the rows passed are stored, and nothing else.
use mathlib.Core.Path.{◌≡◌}
use Prim.Native.Nat.{◌≤◌}
use lib.ListN.{length, take}
use lib.Seq.{sets}
use Rattle.word.specs.Lists.{flat}
use Rattle.state.specs.Layout.{row_words}
use Rattle.state.proofs.encode.row_words.Given as goal

abbrev pub invariant-loop-i : goal.invariant-loop-i
invariant-loop-i l =
    (l.i ≤ 16) × (length l.words ≡ 32) × (l.words ≡ sets l.initial.words 0 (flat row_words (take l.i l.row-items)))
