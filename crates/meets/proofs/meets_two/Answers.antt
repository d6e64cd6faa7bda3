-- `meets::meets_two` meets its contract: the interrupt test, the fetch, then what the fetch gave.
use Rattle.meets.specs.Meets.{meets_two_of}
use Rattle.meets.proofs.meets_two.Goals as goal

pub returns-then-interrupts : goal.returns-then-interrupts
unfolding meets_two_of
returns-then-interrupts c = rw (← c.interrupts.ensures, c.if-interrupts.true)

pub returns-then-met : goal.returns-then-met
unfolding meets_two_of
returns-then-met c =
    let met = c in
    let off = met in
    rw (← off.interrupts.ensures, off.if-interrupts.false, ← met.met.ensures, c.if-met.true)

pub returns : goal.returns
unfolding meets_two_of
returns c =
    let fetched = c in
    let one = fetched in
    let met = one in
    let off = met in
    rw (← off.interrupts.ensures, off.if-interrupts.false, ← met.met.ensures, one.if-met.false, ← fetched.fetch_slow.ensures) c.by_fetched.ensures
