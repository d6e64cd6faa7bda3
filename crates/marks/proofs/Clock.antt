-- The clock, as the index counts it.
use Rattle.std.proofs.Common.{◌≡◌, ◌+◌, ◌^◌, ◌<◌, ◌∙◌, arith}
use Rattle.ring.specs.Slots.{next_slot}
use Rattle.ring.proofs.Slots.{by_leb, next_on, next_round}
use Rattle.clock.specs.Tick.{time_of, up, ticked_of}
use Rattle.clock.specs.declared.Clock.{Clock}
use Rattle.frames.specs.Bytes.{whole}

-- a clock of 64 bits goes on by one and wraps
pub tick_next : (c : Clock) → time_of c < 2 ^ 64 → time_of (ticked_of c).clock ≡ next_slot whole (time_of c)
unfolding ticked_of
tick_next c small =
    let one : time_of (ticked_of c).clock ≡ up 64 (time_of c) = omega arith in
    one
    ∙ by_leb (2 ^ 64) (time_of c + 1)
    (λ round. omega (arith, next_round (2 ^ 64) (time_of c) round))
    (λ on. omega (arith, next_on (2 ^ 64) (time_of c) on))
