-- `tick::tick` meets its contract: eight turns, in number order.
use Rattle.disks.proofs.Turns.{eight_turns}
use Rattle.disks.proofs.tick.tick.Goals as goal

pub returns : goal.returns
returns c =
    record {
      ticked =
          eight_turns _ _ _ _ _ _ _ _ _ _ _ _ _ _ _ _ _ _ _ _ _ _ _ _ _ _ _ _ _ _ _ _ _ _
          c.turn-m0.ensures.turn_is
          c.turn-m1.ensures.turn_is
          c.turn-m2.ensures.turn_is
          c.turn-m3.ensures.turn_is
          c.turn-m4.ensures.turn_is
          c.turn-m5.ensures.turn_is
          c.turn-m6.ensures.turn_is
          c.turn.ensures.turn_is;
      all = c.turn.ensures.all;
    }
