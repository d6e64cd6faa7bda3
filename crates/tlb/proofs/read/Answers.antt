-- `tlb::read` meets its contract: the table has sixteen rows, so the definition's remainder is the code's.
use mathlib.Core.Path.{◌≡◌}
use lib.ListN.{length}
use borrow.Author.Rules.{rules}
use Rattle.tlb.proofs.read.Goals as goal

pub returns : goal.returns
returns c = let sixteen : length c.args.t ≡ 16 = search rules in rw sixteen
