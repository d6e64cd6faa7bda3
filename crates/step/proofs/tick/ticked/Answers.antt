-- `step::tick::ticked` meets its contract.
use Rattle.step.proofs.Held.{ticks_held}
use Rattle.step.proofs.tick.ticked.Goals as goal

pub printed-printed-requires : goal.printed-printed-requires
printed-printed-requires c =
    record { paper_len_bound = c.requires.paper_len_bound; waits = (c.requires.told.waits, c.requires.told.forty) }

pub returns : goal.returns
returns c =
    let a = c.args in
    ticks_held a.settings a.core.now a.held a.words.now a.paper.now c.printed-printed.ensures c.tick_of-beat.ensures
    c.core_in-was.ensures c.core_ticked.ensures c.put_core.ensures
