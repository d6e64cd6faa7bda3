-- `command::commanded` meets its contract: one return for each kind of command.
use borrow.Author.Tests.{eq-eqb, ne_eqb}
use Rattle.printer.specs.Command.{commanded_of}
use Rattle.printer.proofs.command.commanded.Goals as goal

pub returns-then-word : goal.returns-then-word
unfolding commanded_of
returns-then-word c = rw c.if-word.true

pub returns-then-word-eq-ACK : goal.returns-then-word-eq-ACK
unfolding commanded_of
returns-then-word-eq-ACK c = rw (c.if-word.false, eq-eqb _ 1 c.if-word-eq-ACK.true)

pub returns-else-word-eq-ACK : goal.returns-else-word-eq-ACK
unfolding commanded_of
returns-else-word-eq-ACK c = rw (c.if-word.false, ne_eqb _ 1 c.if-word-eq-ACK.false)
