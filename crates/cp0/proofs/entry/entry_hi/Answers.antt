-- `cp0::entry::entry_hi` meets its contract.
use Rattle.std.proofs.Common.{◌≡◌, true, ◌∙◌, rules}
use Rattle.word.specs.Number.{between}
use Rattle.cp0.specs.Entry.{entry_hi_of}
use Rattle.cp0.proofs.entry.entry_hi.Goals as goal

pub returns-then-matches : goal.returns-then-matches
unfolding entry_hi_of
returns-then-matches c = let on : between 1 3 c.args.e.code ≡ true = search rules in c.overlaid.ensures ∙ rw on
