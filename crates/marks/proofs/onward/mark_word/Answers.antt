-- `marks::onward::mark_word` meets its contract.
use Rattle.std.proofs.Common.{arith}
use Rattle.marks.proofs.Answers.{marks}
use Rattle.marks.proofs.onward.mark_word.Goals as goal

pub note-requires : goal.note-requires
note-requires c = omega (arith, c.requires.fits_ram.whole_frames, c.requires.fits_ram.sixteen_each, c.requires.within.1)

pub returns : goal.returns
returns c =
    let a = c.args in
    let read = c.load_word in
    marks a.time a.below a.ram.now a.index.now a.at a.word (omega (arith, c.ranges.word)) c.requires.within.1 read.result read.ensures _ _ c.note.ensures
