-- `run::closed` meets its contract, part by part: the core and the printers are read from their words, and all else stays as it is.
use Rattle.run.proofs.closed.Goals as goal

pub returns : goal.returns
returns c =
    let read = c in
    let line = read in
    rw (read.core_in-core.ensures, line.unpacked-printers.ensures)
