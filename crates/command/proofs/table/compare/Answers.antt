-- `command::table::compare` meets its contract.
use Rattle.command.specs.Table.{compare_of}
use Rattle.command.proofs.table.compare.Goals as goal

pub returns : goal.returns
unfolding compare_of
returns c = rw (c.judged.ensures, c.end.ensures, c.named-folder.ensures, c.word.ensures)
