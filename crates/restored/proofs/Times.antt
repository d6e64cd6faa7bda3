-- The clock goes back by one, over the width: the tick added one and wrapped.
use Prim.Native.Nat.{ℕ, ◌+◌, ◌-◌, ◌/◌, ◌%◌, ◌^◌, ◌<◌}
use mathlib.Core.Path.{◌≡◌, refl, ap, ◌∙◌}
use native.Mathlib.Decide.{dec_lt}
use native.Mathlib.Nat.{mod-eq_of_lt, mod_self, add-mod_right, div-add-mod'}
use native.Mathlib.Omega.{arith}
use Rattle.word.specs.Lists.{Below}
use Rattle.clock.specs.Tick.{time_of, clock_at, up, down, ticked_of}
use Rattle.clock.specs.declared.Clock.{Clock}
use Rattle.bus.specs.Stored.{clock_stored}
use Rattle.bus.specs.declared.store.Store.{Store}
use Rattle.bus.specs.declared.store.Store.TheVariants.{Timer, Command, Data}
use Rattle.std.proofs.Common.{Option, Some, None}
use Rattle.state.specs.Layout.{clock_words}
use Rattle.undo.specs.Undo.{clock_back}

-- `whole` is any number, so the law holds at every width
back_on : (whole n : ℕ) → n < whole → ((n + 1) % whole + (whole - 1)) % whole ≡ n
back_on whole n h =
    elim (dec_lt (n + 1) whole) [
      | yes inside ↦
          let sum : n + 1 + (whole - 1) ≡ n + whole = omega arith in
          rw (mod-eq_of_lt inside, sum, add-mod_right n whole) (mod-eq_of_lt h)
      | no wraps ↦
          let last : n + 1 ≡ whole = omega arith in
          let sum : 0 + (whole - 1) ≡ n = omega arith in
          rw (last, mod_self whole, sum) (mod-eq_of_lt h)
    ]

pub down_up : (k n : ℕ) → n < 2 ^ k → down k (up k n) ≡ n
down_up k n h = back_on (2 ^ k) n h

-- what a clock shows is the time that it was set to
shown : (time timer : ℕ) → time_of (clock_at time timer) ≡ time
shown time timer = div-add-mod' time (2 ^ 32)

-- a clock of two words shows itself
own_clock : (c : Clock) → Below (2 ^ 32) (clock_words c) → clock_at (time_of c) c.timer ≡ c
own_clock c h =
    let low : c.low < 2 ^ 32 = h 1 (omega arith) in
    let high : time_of c / 2 ^ 32 ≡ c.high = omega arith in
    let rest : time_of c % 2 ^ 32 ≡ c.low = omega arith in
    λ i. record { high = high i; low = rest i; timer = c.timer }

pub clock_back_lem : (c : Clock) → Below (2 ^ 32) (clock_words c) → clock_back c.timer (ticked_of c).clock ≡ c
unfolding ticked_of
clock_back_lem c h =
    let low : c.low < 2 ^ 32 = h 1 (omega arith) in
    let high : c.high < 2 ^ 32 = h 0 (omega arith) in
    let small : time_of c < 2 ^ 64 = omega arith in
    ap (λ (time : ℕ). clock_at (down 64 time) c.timer) (shown (up 64 (time_of c)) (down 32 c.timer))
    ∙ ap (λ (time : ℕ). clock_at time c.timer) (down_up 64 (time_of c) small)
    ∙ own_clock c h

-- a store on the bus sets the timer alone, which the record has
pub stored_back : (timer : ℕ) (s : Option Store) (c : Clock) → clock_back timer (clock_stored s c) ≡ clock_back timer c
stored_back timer None c = refl
stored_back timer (Some (Timer word)) c = refl
stored_back timer (Some (Command n word)) c = refl
stored_back timer (Some (Data n word)) c = refl
