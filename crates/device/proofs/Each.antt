-- A test that holds of 0, 1, .., n - 1 holds of each of them, and the other way round.
use Prim.Native.Nat.{ℕ, zero, suc, ◌<◌}
use mathlib.Core.Path.{◌≡◌, refl}
use mathlib.Core.Bool.{Bool, true}
use native.Mathlib.Decide.{dec_lt}
use native.Mathlib.Omega.{arith}
use Rattle.word.specs.Lists.{every}
use Rattle.word.proofs.Cond.{both}

pub all_hold : (n : ℕ) (f : ℕ → Bool) → ((k : ℕ) → k < n → f k ≡ true) → every n f ≡ true
all_hold zero f h = refl
all_hold (suc n) f h = rw (all_hold n f (λ k l. h k (omega arith)), h n (omega arith))

pub each_holds : (n : ℕ) (f : ℕ → Bool) → every n f ≡ true → (k : ℕ) → k < n → f k ≡ true
each_holds zero f e k h = absurd (omega arith)
each_holds (suc n) f e k h =
    let both = both (every n f) (f n) e in
    elim (dec_lt k n) [
      | yes lower ↦ each_holds n f both.0 k lower
      | no not_lower ↦ let last : k ≡ n = omega arith in rw last both.1
    ]
