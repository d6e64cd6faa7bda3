-- `step::ahead::ahead` meets its contract.
use Rattle.step.proofs.ahead.ahead.Goals as goal

pub returns : goal.returns
returns c =
    let mapped = c in
    let looked = mapped in
    let beaten = looked in
    rw (c.core_ticked.ensures, mapped.pending_ahead-pending.ensures, looked.ending_in-ending.ensures, beaten.tick_of-beat.ensures)
