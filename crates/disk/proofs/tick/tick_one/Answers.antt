-- `tick::tick_one` meets its contract: each way out has the tests that led there.
use borrow.Author.Tests.{eq-eqb, ne_eqb}
use mathlib.Core.Path.{sym, ◌∙◌}
use Rattle.disk.specs.Tick.{disk_ticked, ram_ticked, bytes_ticked}
use Rattle.disk.proofs.tick.tick_one.Goals as goal

pub returns-then-d-ne-BUSY : goal.returns-then-d-ne-BUSY
unfolding disk_ticked ram_ticked bytes_ticked
returns-then-d-ne-BUSY c = let idle = ne_eqb _ 3 c.if-d-ne-BUSY.true in
    record { disk_is = rw idle; finished_is = rw idle; ram_is = rw idle; bytes_is = rw idle }

pub returns-then-is_last : goal.returns-then-is_last
unfolding disk_ticked
returns-then-is_last c = let busy = eq-eqb _ 3 c.if-d-ne-BUSY.false in
    let last = sym c.is_last.ensures ∙ c.if-is_last.true in
    let word = c.transfer.ensures in
    record { disk_is = rw (busy, last) c.ended.ensures; finished_is = rw (busy, last); ram_is = word.ram_is; bytes_is = word.bytes_is }

pub returns : goal.returns
unfolding disk_ticked
returns c = let busy = eq-eqb _ 3 c.if-d-ne-BUSY.false in
    let more = sym c.is_last.ensures ∙ c.if-is_last.false in
    let word = c.transfer.ensures in
    record { disk_is = rw (busy, more) c.fallen.ensures; finished_is = rw (busy, more); ram_is = word.ram_is; bytes_is = word.bytes_is }
