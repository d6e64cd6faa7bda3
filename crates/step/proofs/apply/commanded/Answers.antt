-- `step::apply::commanded` meets its contract: a printer at work takes no command (`stores_refused`), any other may have begun to work (`stores_command`).
use native.Mathlib.Omega.{arith}
use borrow.Author.Tests.{eq-eqb}
use Rattle.step.proofs.Held.{stores_command, stores_refused}
use Rattle.step.proofs.apply.commanded.Goals as goal

pub overflow_mul-n : goal.overflow_mul-n
overflow_mul-n c = omega (arith, c.requires.n_bound)

pub offset_bounds-words-n : goal.offset_bounds-words-n
offset_bounds-words-n c = omega (arith, c.requires.n_bound)

pub bounds-words-n : goal.bounds-words-n
bounds-words-n c = omega (arith, c.requires.n_bound)

pub returns-then-words-n-eq-BUSY : goal.returns-then-words-n-eq-BUSY
returns-then-words-n-eq-BUSY c =
    let a = c.args in
    stores_refused a.settings a.held a.words.now a.n a.word c.requires.n_bound c.requires.told (eq-eqb _ _ c.if-words-n-eq-BUSY.true)

pub command-pending-requires : goal.command-pending-requires
command-pending-requires c = (c.requires.n_bound, c.requires.told.forty)

pub returns : goal.returns
returns c =
    let a = c.args in
    stores_command a.settings a.held a.words.now a.n a.word c.requires.n_bound c.requires.told c.command-pending.ensures
