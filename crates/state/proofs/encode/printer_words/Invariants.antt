-- `state::encode::printer_words` meets its contract. The invariant: the words of the printers passed are stored, and nothing else.
use mathlib.Core.Path.{◌≡◌}
use Prim.Native.Nat.{◌≤◌}
use lib.ListN.{length, take}
use lib.Seq.{sets}
use Rattle.word.specs.Lists.{flat}
use Rattle.state.specs.Layout.{printer_words}
use Rattle.state.proofs.encode.printer_words.Given as goal

abbrev pub invariant-loop-i : goal.invariant-loop-i
invariant-loop-i l =
    (l.i ≤ 8) × (length l.words ≡ 40) × (l.words ≡ sets l.initial.words 0 (flat printer_words (take l.i l.p-items)))
