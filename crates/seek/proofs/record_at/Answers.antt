-- `seek::record_at` meets its contract: what is lent is the slot that `slot_back` tells.
use native.Mathlib.Omega.{arith}
use Rattle.seek.proofs.OnHand.{kth_part, kth_long}
use Rattle.seek.proofs.record_at.Goals as goal

pub returns : goal.returns
returns c =
    let back = c.slot_back-at in
    let given = c.args in (
      kth_part _ given.next given.k back.result back.ensures.0,
      kth_long _ given.next given.k back.result back.ensures.0 (omega (arith, back.ensures.1)),
    )
