-- `forward::done` meets its contract.
use Rattle.turn.specs.Buffers.{buffers_of}
use Rattle.forward.proofs.Running.{done_is}
use Rattle.forward.proofs.done.Goals as goal

pub returns : goal.returns
returns c =
    let a = c.args in
    done_is (buffers_of a.image.now a.execution.now a.bootstrap.now a.ram.now a.paper.now a.journal.now a.index.now) a.budget a.stop
    c.run-ran.result c.requires.machine_value c.run-ran.ensures c.encode.ensures c.reason.ensures
