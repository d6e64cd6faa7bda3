-- `held::line::wait_at` meets its contract (`waits`).
use native.Mathlib.Omega.{arith}
use mathlib.Core.Path.{ap}
use Rattle.std.specs.Prelude.{◌+◌, ◌*◌, set}
use Rattle.held.proofs.LineHeld.{waits}
use Rattle.held.proofs.line.wait_at.Goals as goal

pub waited-requires : goal.waited-requires
waited-requires c = λ e. let more = c.requires.2 e in omega (arith, more)

pub returns : goal.returns
returns c = let a = c.args in waits a.words.now a.n c.requires.0 c.requires.1 c.requires.2 (ap (set a.words.now (5 * a.n + 3)) c.waited.ensures)
