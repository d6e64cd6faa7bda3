-- `intend::access::reached` meets its contract: what comes before the bus, under Status and EntryHi, then the bus.
use Rattle.intend.proofs.InParts.{reached_in_parts}
use Rattle.intend.proofs.access.reached.Goals as goal

pub returns : goal.returns
returns c =
    let a = c.args in
    reached_in_parts a.kind a.width a.cp0 a.rows a.sizes a.va c.mode_of.ensures c.physical-to.ensures c.landed.ensures
