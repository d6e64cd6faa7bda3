-- `back::asked` meets its contract: one of the three answers of `Answers`.
use mathlib.Core.Path.{sym, ◌∙◌}
use native.Mathlib.Nat.{le_trans}
use Rattle.back.proofs.Answers.{asked_far, asked_bad, asked_done}
use Rattle.back.proofs.asked.Goals as goal

pub returns-then-hand-steps : goal.returns-then-hand-steps
returns-then-hand-steps c =
    let a = c.args in
    asked_far a.steps a.m a.ram a.paper a.journal.now c.if-hand-steps.true

pub all_fit-requires : goal.all_fit-requires
all_fit-requires c =
    let sound = c.requires.ready.sound in
    record {
      next_bound = sound.place;
      k_bound = le_trans c.if-hand-steps.false sound.most;
      paper_bound = c.requires.paper_bound;
    }

pub returns-then-not-all_fit : goal.returns-then-not-all_fit
returns-then-not-all_fit c =
    let a = c.args in
    asked_bad a.steps a.m a.ram a.paper a.journal.now c.if-hand-steps.false (sym c.all_fit.ensures ∙ c.if-not-all_fit.true)

pub returns : goal.returns
returns c =
    let a = c.args in
    asked_done a.steps a.m a.ram a.paper a.journal.now c.if-hand-steps.false (sym c.all_fit.ensures ∙ c.if-not-all_fit.false)
