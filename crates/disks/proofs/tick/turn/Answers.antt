-- `tick::turn` meets its contract: a disk that is not busy is left, any other is put back.
use Rattle.disks.proofs.LineHeld.{still, worked}
use Rattle.disks.proofs.tick.turn.Goals as goal

pub returns-then-words-n-ne-BUSY : goal.returns-then-words-n-ne-BUSY
returns-then-words-n-ne-BUSY c =
    let start = c in
    let a = start.args in
    still a.words.now a.n start.requires.0 start.requires.1 a.pending a.ram.now a.bytes.now c.if-words-n-ne-BUSY.true

pub returns : goal.returns
returns c =
    let ticked = c in
    let read = ticked in
    let start = read in
    let a = start.args in
    worked a.words.now a.n start.requires.0 start.requires.1 a.pending a.ram.now a.bytes.now read.disk_in-d.ensures ticked.tick_one-one.ensures
    c.put_disk.ensures c.pending_on.ensures
