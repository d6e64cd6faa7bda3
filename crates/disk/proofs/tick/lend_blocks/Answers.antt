-- `tick::lend_blocks` meets its contract: a word of the two parts is one of the two wholes.
use Rattle.disk.proofs.Blocks.{home}
use Rattle.disk.proofs.tick.lend_blocks.Goals as goal

pub returns : goal.returns
returns c = let start = c in
    let a = start.args in
    home a.to.now a.first a.from.now a.second a.at _ start.requires.to_in start.requires.from_in start.requires.at_in
    c.move_word.ensures
