-- `pages::remember` meets its contract: what is worked out for a key is kept under it.
use Rattle.pages.proofs.Knows.{told_anew}
use Rattle.pages.proofs.remember.Goals as goal

pub returns : goal.returns
returns c = rw c.or.ensures (told_anew c.args.key c.args.rows c.args.ram c.args.known _ c.lookup.ensures c.requires)
