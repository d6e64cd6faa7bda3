-- `held::line::waited` meets its contract.
use native.Mathlib.Omega.{arith}
use borrow.Author.Tests.{eq-eqb, ne_eqb}
use Rattle.held.proofs.line.waited.Goals as goal

pub overflow_sub-result : goal.overflow_sub-result
overflow_sub-result c = let some = c.requires (eq-eqb _ _ c.if-status-eq-BUSY.true) in omega (arith, some)

pub returns-then-status-eq-BUSY : goal.returns-then-status-eq-BUSY
returns-then-status-eq-BUSY c = rw (eq-eqb _ _ c.if-status-eq-BUSY.true)

pub returns : goal.returns
returns c = rw (ne_eqb _ _ c.if-status-eq-BUSY.false)
