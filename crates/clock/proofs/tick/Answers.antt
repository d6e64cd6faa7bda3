-- `clock::tick` meets its contract: what it returns and what it stores are the two parts of what `ticked` ensures.
use mathlib.Core.Path.{ap}
use Rattle.clock.specs.declared.Beat.{Beat}
use Rattle.clock.proofs.tick.Goals as goal

pub returns : goal.returns
returns c = (ap (λ (b : Beat). b.rang) c.ticked-t.ensures, ap (λ (b : Beat). b.clock) c.ticked-t.ensures)
