-- `saved::put_at` meets its contract: a store beyond the paper would change nothing.
use mathlib.Core.Path.{sym}
use native.Mathlib.Omega.{arith}
use lib.Seq.{set_out}
use Rattle.printer.specs.Tick.{room_of}
use Rattle.printer.proofs.Places.{last_eighth}
use Rattle.printer.proofs.saved.put_at.Goals as goal

pub overflow_mul-place : goal.overflow_mul-place
overflow_mul-place c = let a = c.args in
    omega (arith, last_eighth a.n (room_of a.paper.now) c.requires)

pub overflow_add-place : goal.overflow_add-place
overflow_add-place c = let a = c.args in
    omega (arith, last_eighth a.n (room_of a.paper.now) c.requires)

pub returns-then-not-on : goal.returns-then-not-on
returns-then-not-on c = rw c.if-not-on.true

pub returns-then-place-paper : goal.returns-then-place-paper
returns-then-place-paper c = rw c.if-not-on.false

pub returns-else-place-paper : goal.returns-else-place-paper
returns-else-place-paper c = rw c.if-not-on.false (sym (set_out _ _ _ c.if-place-paper.false))
