-- `run::run` meets its contract: the parts are opened, the loop runs on them, and they are closed again. The lengths of the printers and of the table are in what owning the machine tells.
use Rattle.std.specs.Prelude.{◌≡◌, length}
use Rattle.turn.specs.Buffers.{beside_of}
use Rattle.run.proofs.Ends.{opened_ready, spun_is}
use Rattle.run.proofs.run.Goals as goal

pub spin-spun-requires : goal.spin-spun-requires
spin-spun-requires c =
    let a = c.args in
    let eight : length a.machine.board.line.printers ≡ 8 = c.well_formed.0.1.1.1.0.1.1.1.1.0.1.1.0.1.0.1 in
    let sixteen : length a.machine.cpu.tlb ≡ 16 = c.well_formed.0.1.1.0.1.1.1.1.0.1.0.1 in
    opened_ready a.machine eight sixteen (beside_of a.execution.now a.bootstrap.now a.ram.now a.paper.now a.journal.now a.index.now) c.opened-parts.ensures c.requires

pub returns : goal.returns
returns c =
    let a = c.args in
    let eight : length a.machine.board.line.printers ≡ 8 = c.well_formed.0.1.1.1.0.1.1.1.1.0.1.1.0.1.0.1 in
    let sixteen : length a.machine.cpu.tlb ≡ 16 = c.well_formed.0.1.1.0.1.1.1.1.0.1.0.1 in
    spun_is a.machine eight sixteen (beside_of a.execution.now a.bootstrap.now a.ram.now a.paper.now a.journal.now a.index.now)
    (let l = c.spin-spun.new in beside_of a.execution.now a.bootstrap.now l.ram l.paper l.journal l.index) a.budget a.stop
    c.spin-spun.result c.opened-parts.ensures c.spin-spun.ensures c.closed-after.ensures
