-- A field from 1 to the top stays from 1 to the top, so Random never names entry 0.
use Prim.Native.Nat.{ℕ, ◌-◌, ◌≤◌}
use mathlib.Core.Bool.{cond}
use native.Mathlib.Omega.{arith}
use borrow.Author.Tests.{leb-false}
use lib.Dec.{leb}
use Rattle.word.proofs.Cond.{picked}
use Rattle.cp0.specs.Random.{field, random_of}

abbrev pub InTable : ℕ → ℕ → Type 0
InTable top n = (1 ≤ n) × (n ≤ top)

pub random_stays : (top random : ℕ) → InTable top (field random) → InTable top (field (random_of top random))
random_stays top random was =
    let now : InTable top (cond (leb (field random) 1) top (field random - 1)) =
    picked (InTable top) (leb (field random) 1) top (field random - 1) (λ one. (omega arith, omega arith)) (λ more. let h = leb-false (field random) 1 more in (omega arith, omega arith)) in
    (omega arith, omega arith)
