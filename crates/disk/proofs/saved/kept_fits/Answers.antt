-- `saved::kept_fits` meets its contract.
use Rattle.std.proofs.Common.{rules}
use Rattle.disk.specs.Saved.{kept_fits}
use Rattle.disk.proofs.saved.kept_fits.Goals as goal

pub returns : goal.returns
unfolding kept_fits
returns c = search rules
