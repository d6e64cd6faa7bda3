-- `text::write::put` meets its contract. The loop's invariant: the bytes so far are laid.
use lib.ListN.{take}
use Rattle.text.specs.Laid.{Laid}
use Rattle.text.proofs.write.put.Given as goal

abbrev pub invariant-loop-b : goal.invariant-loop-b
invariant-loop-b l = Laid l.initial.out l.at (take l.b-index l.bytes) l.out l.next
