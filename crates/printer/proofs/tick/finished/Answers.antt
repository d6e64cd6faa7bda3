-- `tick::finished` meets its contract: each way out has the tests that led there.
use native.Mathlib.Omega.{arith}
use borrow.Author.Tests.{eq-eqb, ne_eqb, lt-ltb, le-ltb}
use Rattle.printer.specs.Tick.{finished_of}
use Rattle.printer.proofs.tick.finished.Goals as goal

pub returns-then-p-ne-PRINTCHR : goal.returns-then-p-ne-PRINTCHR
unfolding finished_of
returns-then-p-ne-PRINTCHR c = rw (ne_eqb _ _ c.if-p-ne-PRINTCHR.true) c.ended_with.ensures

pub returns-then-room-count : goal.returns-then-room-count
unfolding finished_of
returns-then-room-count c = rw (eq-eqb _ _ c.if-p-ne-PRINTCHR.false, le-ltb _ _ c.if-room-count.true) c.ended_with-then-room-count.ensures

pub overflow_add-count : goal.overflow_add-count
overflow_add-count c = let small = c.requires in
    omega (arith, c.if-room-count.false)

pub returns : goal.returns
unfolding finished_of
returns c = rw (eq-eqb _ _ c.if-p-ne-PRINTCHR.false, lt-ltb _ _ c.if-room-count.false) c.ended_with-2.ensures
