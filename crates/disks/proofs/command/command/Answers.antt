-- `command::command` meets its contract: a disk that takes no writes ignores it.
use mathlib.Core.Bool.{Bool}
use mathlib.Core.Path.{sym, ap, ◌∙◌}
use Rattle.word.specs.Map.{with_bit}
use Rattle.disks.proofs.LineHeld.{not_commanded, commanded_held}
use Rattle.disks.proofs.command.command.Goals as goal

pub returns-then-not-takes_writes : goal.returns-then-not-takes_writes
returns-then-not-takes_writes c =
    let a = c.args in
    not_commanded a.words.now a.n c.requires.0 c.requires.1 a.installed a.delay a.room a.word a.pending c.disk_in-d.ensures
    (sym c.takes_writes.ensures ∙ c.if-not-takes_writes.true)

pub returns : goal.returns
returns c =
    let a = c.args in
    commanded_held a.words.now a.n c.requires.0 c.requires.1 a.installed a.delay a.room a.word a.pending c.disk_in-d.ensures
    (sym c.takes_writes.ensures ∙ c.if-not-takes_writes.false) c.commanded-next.ensures c.put_disk.ensures
    (c.with_bit.ensures ∙ ap (λ (b : Bool). with_bit a.n b a.pending) c.is_refused.ensures)
