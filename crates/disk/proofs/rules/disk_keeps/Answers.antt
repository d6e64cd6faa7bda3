-- `rules::disk_keeps` meets its contract.
use Rattle.disk.specs.Rules.{disk_keeps}
use Rattle.disk.proofs.rules.disk_keeps.Goals as goal

pub returns-then-installed : goal.returns-then-installed
unfolding disk_keeps
returns-then-installed c = rw (c.if-installed.true, c.present_keeps.ensures)

pub returns-else-installed : goal.returns-else-installed
unfolding disk_keeps
returns-else-installed c = rw (c.if-installed.false, c.absent_keeps.ensures)
