-- `decide::step::decide` meets its contract: the interrupt test, then what the fetch gave (`decide_done`).
use mathlib.Core.Path.{sym, ◌∙◌}
use Rattle.decide.specs.Decide.{decide_of}
use Rattle.decide.proofs.Fetches.{decide_done}
use Rattle.decide.proofs.step.decide.Goals as goal

pub returns-then-interrupts : goal.returns-then-interrupts
unfolding decide_of
returns-then-interrupts c = rw (← c.interrupts.ensures, c.if-interrupts.true) c.trapped.ensures

pub returns-in-Ok : goal.returns-in-Ok
returns-in-Ok c = c.execute.ensures ∙ sym (decide_done _ _ _ _ (sym c.interrupts.ensures ∙ c.if-interrupts.false) c.fetch.ensures c.in-Ok.is)

pub returns-in-Err : goal.returns-in-Err
returns-in-Err c = c.refused.ensures ∙ sym (decide_done _ _ _ _ (sym c.interrupts.ensures ∙ c.if-interrupts.false) c.fetch.ensures c.in-Err.is)
