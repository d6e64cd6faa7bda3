-- `remote::reply::put_body` meets its contract. The loop's invariant: the bytes so far are laid, and the checksum is theirs.
use lib.ListN.{take}
use Rattle.remote.specs.Said.{Bodied}
use Rattle.remote.proofs.reply.put_body.Given as goal

abbrev pub invariant-loop-b : goal.invariant-loop-b
invariant-loop-b l = Bodied l.initial.out l.at (take l.b-index l.reply) l.out (record { next = l.next; sum = l.sum })
