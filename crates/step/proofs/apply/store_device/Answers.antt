-- `step::apply::store_device` meets its contract.
use Rattle.bus.proofs.Stores.{in_line}
use Rattle.step.proofs.apply.store_device.Goals as goal

pub stored-requires : goal.stored-requires
stored-requires c = record { in_line = rw c.write.ensures (in_line c.args.offset c.args.word); told = c.requires }

pub returns : goal.returns
returns c =
    let is = c.stored.ensures in
    let wrote = c.write.ensures in
    record { board_is = rw wrote at is.board_is; told = is.told }
