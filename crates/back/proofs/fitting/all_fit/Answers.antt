-- `back::fitting::all_fit` meets its contract. The invariant is `Checked`: the records passed are well formed, and the machine is where undoing them leads.
use mathlib.Core.Path.{sym, ◌∙◌}
use Rattle.back.proofs.Turns.{checked_start, checked_bad, checked_more, checked_end}
use Rattle.back.proofs.fitting.all_fit.Goals as goal

pub loop-j-init : goal.loop-j-init
loop-j-init c = checked_start _ _ _ _

pub returns-in_default : goal.returns-in_default
returns-in_default c =
    sym
    (checked_bad c.loop-j.here c.loop-j.invariant c.loop-j-test.true c.slot_back-at.result c.slot_back-at.ensures.0
    (sym c.in_default.is ∙ c.checked.ensures))

pub loop-j-preserved : goal.loop-j-preserved
loop-j-preserved c =
    checked_more c.loop-j.here c.loop-j.invariant c.loop-j-test.true c.slot_back-at.result c.slot_back-at.ensures.0
    c.in-Some.before (sym c.in-Some.is ∙ c.checked.ensures)

pub returns : goal.returns
returns c = sym (checked_end c.loop-j.invariant c.loop-j-test.false)
