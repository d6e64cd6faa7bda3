-- `rules::bytes_keep` meets its contract, from what its two tests ensure.
use Rattle.rules.proofs.bytes_keep.Goals as goal

pub returns : goal.returns
returns c = rw (c.header_keeps.ensures, c.disks_keep.ensures)
