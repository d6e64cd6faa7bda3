-- `step::apply::applied` meets its contract.
use Rattle.step.proofs.Held.{applies_held}
use Rattle.step.proofs.apply.applied.Goals as goal

pub write_back-requires : goal.write_back-requires
write_back-requires c = c.requires.within

pub held_after-next-requires : goal.held_after-next-requires
held_after-next-requires c = c.requires.told

pub returns : goal.returns
returns c =
    let a = c.args in
    applies_held a.settings a.sizes a.d a.core.now _ a.held a.words.now a.regs.now a.ram.now
    c.write_back.ensures c.held_after-next.ensures c.move_core.ensures c.core_in-moved.ensures c.with_pc.ensures c.put_core.ensures
