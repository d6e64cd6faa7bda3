-- Document 01, step 1: the 64-bit clock + 1 (wraps), the timer - 1 (wraps); the passage from 0 to 0xFFFFFFFF turns on IP[2].
use Rattle.std.specs.Prelude.{ℕ, ◌+◌, ◌-◌, ◌*◌, ◌/◌, ◌%◌, ◌^◌, ◌==◌}
use Rattle.clock.specs.declared.Clock.{Clock}
use Rattle.clock.specs.declared.Beat.{Beat}

-- the two clock words as one number
abbrev pub time_of : Clock → ℕ
time_of c = c.high * 2 ^ 32 + c.low

-- the clock that shows a time, and a timer
abbrev pub clock_at : ℕ → ℕ → Clock
clock_at time timer = record { high = time / 2 ^ 32; low = time % 2 ^ 32; timer = timer }

-- one step of a number of k bits, up and down, each with its wrap; down adds all ones
abbrev pub up : ℕ → ℕ → ℕ
up k n = (n + 1) % 2 ^ k

abbrev pub down : ℕ → ℕ → ℕ
down k n = (n + (2 ^ k - 1)) % 2 ^ k

unfoldable pub ticked_of : Clock → Beat
ticked_of c = record { clock = clock_at (up 64 (time_of c)) (down 32 c.timer); rang = (c.timer == 0) }
