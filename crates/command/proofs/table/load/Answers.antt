-- `command::table::load` meets its contract.
use Rattle.command.specs.Table.{load_of}
use Rattle.command.proofs.table.load.Goals as goal

pub returns : goal.returns
unfolding load_of
returns c = rw (c.counted-address.ensures, c.named-file.ensures, c.word.ensures)
