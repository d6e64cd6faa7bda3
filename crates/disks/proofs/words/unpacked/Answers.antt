-- `words::unpacked` meets its contract: each place of the array is read.
use Rattle.std.proofs.Common.{rules}
use Rattle.device.proofs.Made.{made_by}
use Rattle.disk.specs.Tick.{no_disk}
use Rattle.disks.specs.Words.{disk_in, disks_in}
use Rattle.disks.proofs.words.unpacked.Goals as goal

pub returns : goal.returns
unfolding disks_in
returns c = made_by _ _ (disk_in c.args.words.now) (λ i y q k. search rules) c.from_fn.result 8 no_disk c.from_fn.ensures.items
