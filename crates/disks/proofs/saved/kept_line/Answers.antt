-- `saved::kept_line` meets its contract: each place of the array is read.
use Rattle.std.proofs.Common.{rules}
use Rattle.device.proofs.Made.{made_by}
use Rattle.disk.specs.Saved.{no_kept}
use Rattle.disks.specs.Saved.{kept_in, kepts_in}
use Rattle.disks.proofs.saved.kept_line.Goals as goal

pub returns : goal.returns
unfolding kepts_in
returns c = made_by _ _ (kept_in c.args.words.now) (λ i y q k. search rules) c.from_fn.result 8 no_kept c.from_fn.ensures.items
