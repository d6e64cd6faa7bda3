-- `command::data` meets its contract: a disk that takes no writes ignores it.
use mathlib.Core.Path.{sym, ◌∙◌}
use Rattle.disks.proofs.LineHeld.{not_written, written_held}
use Rattle.disks.proofs.command.data.Goals as goal

pub returns-then-not-takes_writes : goal.returns-then-not-takes_writes
returns-then-not-takes_writes c =
    let a = c.args in
    not_written a.words.now a.n c.requires.0 c.requires.1 a.installed a.word c.disk_in-d.ensures
    (sym c.takes_writes.ensures ∙ c.if-not-takes_writes.true)

pub returns : goal.returns
returns c =
    let a = c.args in
    written_held a.words.now a.n c.requires.0 c.requires.1 a.installed a.word c.disk_in-d.ensures
    (sym c.takes_writes.ensures ∙ c.if-not-takes_writes.false) c.with_data.ensures c.put_disk.ensures
