-- `run::opened` meets its contract.
use Rattle.run.proofs.opened.Goals as goal

pub returns : goal.returns
returns c =
    let packed = c in
    let core = packed in
    rw (packed.packed-words.ensures, core.core_words-core.ensures)
