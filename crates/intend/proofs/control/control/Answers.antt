-- `intend::control::control` meets its contract: by the test, which comes first.
use Rattle.intend.specs.Control.{control_of}
use Rattle.intend.proofs.control.control.Goals as goal

pub returns-then-usable : goal.returns-then-usable
unfolding control_of
returns-then-usable c = rw (← c.usable.ensures, c.if-usable.true) c.function.ensures

pub returns : goal.returns
unfolding control_of
returns c = rw (← c.usable.ensures, c.if-usable.false)
