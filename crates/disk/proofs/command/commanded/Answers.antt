-- `command::commanded` meets its contract.
use Rattle.std.proofs.Common.{rules}
use Rattle.disk.specs.Command.{commanded_of}
use Rattle.disk.proofs.command.commanded.Goals as goal

pub returns-then-status-is_boom : goal.returns-then-status-is_boom
unfolding commanded_of
returns-then-status-is_boom c = search rules

pub returns-then-status-is_transfer : goal.returns-then-status-is_transfer
unfolding commanded_of
returns-then-status-is_transfer c = search rules

pub returns : goal.returns
unfolding commanded_of
returns c = search rules
