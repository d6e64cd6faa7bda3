-- `tlb::lowest` meets its contract: the place of the first row that matches is the one that the definition's search finds.
use mathlib.Core.Path.{◌∙◌}
use Rattle.tlb.specs.Entry.{matches_of}
use Rattle.tlb.proofs.Steps.{first_position}
use Rattle.tlb.proofs.lowest.Goals as goal

pub returns : goal.returns
returns c = c.first.ensures ∙ first_position (matches_of c.args.sought) c.args.t
