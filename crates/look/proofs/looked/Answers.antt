-- `look::looked` meets its contract: the limit, the budget, then the matches.
use mathlib.Core.Path.{sym}
use native.Mathlib.Omega.{arith}
use borrow.Author.Tests.{eq-eqb, ne_eqb}
use borrow.Author.Rules.{rules}
use Rattle.look.proofs.looked.Goals as goal

pub returns-then-steps-limit : goal.returns-then-steps-limit
returns-then-steps-limit c = rw (ne_eqb _ _ c.if-steps-limit.true)

pub returns-then-steps-budget : goal.returns-then-steps-budget
returns-then-steps-budget c = rw (eq-eqb _ _ c.if-steps-limit.false, eq-eqb _ _ c.if-steps-budget.true)

pub returns-then-held_back : goal.returns-then-held_back
returns-then-held_back c =
    let asked = c in
    rw (eq-eqb _ _ asked.if-steps-limit.false, ne_eqb _ _ asked.if-steps-budget.false, ← asked.held_back.ensures, c.if-held_back.true)

pub returns : goal.returns
returns c =
    let asked = c in
    rw (eq-eqb _ _ asked.if-steps-limit.false, ne_eqb _ _ asked.if-steps-budget.false, ← asked.held_back.ensures, c.if-held_back.false)
