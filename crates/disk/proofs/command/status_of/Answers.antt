-- `command::status_of` meets its contract: one return for each code.
use Rattle.std.proofs.Common.{rules}
use Rattle.disk.specs.Command.{status_of}
use Rattle.disk.proofs.command.status_of.Goals as goal

pub returns-in-0 : goal.returns-in-0
unfolding status_of
returns-in-0 c = search rules

pub returns-in-1 : goal.returns-in-1
unfolding status_of
returns-in-1 c = search rules

pub returns-in-2 : goal.returns-in-2
unfolding status_of
returns-in-2 c = search rules

pub returns-in-3 : goal.returns-in-3
unfolding status_of
returns-in-3 c = search rules

pub returns-in-4 : goal.returns-in-4
unfolding status_of
returns-in-4 c = search rules

pub returns-in_default : goal.returns-in_default
unfolding status_of
returns-in_default c = search rules
