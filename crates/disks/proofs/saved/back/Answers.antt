-- `saved::back` meets its contract.
use Rattle.disks.proofs.Turns.{one_back}
use Rattle.disks.proofs.saved.back.Goals as goal

pub returns : goal.returns
returns c = let a = c.args in
    one_back a.n a.k a.line a.ram.now a.bytes.now _ _ _ c.given_back-was.ensures c.ram_back.ensures c.bytes_back.ensures
