-- `saved::back_line` meets its contract: eight disks given back, the last first.
use Rattle.disks.proofs.Turns.{eight_backs}
use Rattle.disks.proofs.saved.back_line.Goals as goal

pub returns : goal.returns
returns c =
    eight_backs _ _ _ _ _ _ _ _ _ _ _ _ _ _ _ _ _ _ _ _ _ _ _ _ _ _ _ _ _ _ _ _ _ _ _ _
    c.back-l7.ensures
    c.back-l6.ensures
    c.back-l5.ensures
    c.back-l4.ensures
    c.back-l3.ensures
    c.back-l2.ensures
    c.back-l1.ensures
    c.back-l0.ensures
