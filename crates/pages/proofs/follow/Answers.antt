-- `pages::follow` meets its contract.
use Rattle.pages.proofs.Knows.{known_inside}
use Rattle.pages.proofs.follow.Goals as goal

pub lacks-requires-clause-inside : goal.lacks-requires-clause-inside
lacks-requires-clause-inside c = known_inside c.requires.known
