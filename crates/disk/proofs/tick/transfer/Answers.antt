-- `tick::transfer` meets its contract: one way or the other, or neither.
use mathlib.Core.Path.{sym, ◌∙◌}
use lib.ListN.{length}
use Rattle.disk.specs.Tick.{ram_ticked, bytes_ticked}
use Rattle.disk.proofs.Places.{reads_only}
use Rattle.disk.proofs.tick.transfer.Goals as goal

pub returns-then-reads : goal.returns-then-reads
unfolding ram_ticked bytes_ticked
returns-then-reads c = let a = c.args in
    let on = sym c.reads.ensures ∙ c.if-reads.true in
    record { ram_is = rw on c.read_word.ensures; bytes_is = rw (reads_only (length a.ram.now) (length a.bytes.now) a.d on) }

pub returns-then-writes : goal.returns-then-writes
unfolding ram_ticked bytes_ticked
returns-then-writes c = let a = c.args in
    let off = sym c.reads.ensures ∙ c.if-reads.false in
    let on = sym c.writes.ensures ∙ c.if-writes.true in
    record { ram_is = rw off; bytes_is = rw on c.write_word.ensures }

pub returns-else-writes : goal.returns-else-writes
unfolding ram_ticked bytes_ticked
returns-else-writes c = let a = c.args in
    let off = sym c.reads.ensures ∙ c.if-reads.false in
    let off2 = sym c.writes.ensures ∙ c.if-writes.false in
    record { ram_is = rw off; bytes_is = rw off2 }
