-- `saved::keep` meets its contract: eight times four words.
use Rattle.disks.specs.Saved.{note_words}
use Rattle.disks.specs.Words.{disks_in}
use Rattle.disks.proofs.NoteWords.{eight_kept}
use Rattle.disks.proofs.saved.keep.Goals as goal

pub returns : goal.returns
unfolding note_words disks_in
returns c =
    eight_kept c.args.kept.now _ _ _ _ _ _ _ _ _ _ _ _ _ _ _ _ c.requires
    c.keep_one.ensures
    c.keep_one-2.ensures
    c.keep_one-3.ensures
    c.keep_one-4.ensures
    c.keep_one-5.ensures
    c.keep_one-6.ensures
    c.keep_one-7.ensures
    c.keep_one-8.ensures
