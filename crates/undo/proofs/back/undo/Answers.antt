-- `undo::back::undo` meets its contract: each part is what its own function ensures.
use Rattle.undo.specs.Undo.{undo_of}
use Rattle.undo.proofs.back.undo.Goals as goal

pub returns : goal.returns
unfolding undo_of
returns c =
    let paper = c in
    let ram = paper in
    let machine = c.machine_back.ensures in
    (machine, rw (machine, ram.ram_back.ensures, paper.restore_paper.ensures))
