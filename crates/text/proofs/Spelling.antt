-- A number as bytes, one digit or one group more; and that more room for digits than a number has changes nothing.
use mathlib.Core.Path.{◌≡◌, refl, ap, ◌∙◌}
use mathlib.Core.Bool.{cond}
use mathlib.Core.List.{[], ◌∷◌, ◌++◌}
use Prim.Native.Nat.{ℕ, zero, suc, ◌-◌, ◌/◌, ◌%◌, ◌<◌, ◌≤◌, ◌^◌}
use native.Mathlib.Nat.{pow-suc, div-lt_iff_lt-mul}
use native.Mathlib.Omega.{arith}
use borrow.Author.Tests.{lt-ltb, le-ltb}
use lib.Dec.{ltb}
use Rattle.text.specs.Spelt.{face_of, low_of, decimal_in, decimal_of, grouped_in, grouped_of}

pub low_none : (base n v : ℕ) → n ≡ 0 → low_of base n v ≡ []
unfolding low_of
low_none base n v e = rw e

pub low_more : (base n v : ℕ) → (n ≡ 0 → ⊥) → low_of base n v ≡ low_of base (n - 1) (v / base) ++ face_of (v % base) ∷ []
unfolding low_of
low_more base zero v h = absurd (h refl)
low_more base (suc n) v h = let e : suc n - 1 ≡ n = omega arith in rw e

pos : (k : ℕ) → 0 < suc k
pos k = omega arith

-- ---- decimal
pub decimal_small : (v : ℕ) → v < 10 → decimal_of v ≡ face_of v ∷ []
unfolding decimal_in
decimal_small v h = rw (lt-ltb v 10 h)

decimal_enough : (n v : ℕ) → v < 10 ^ suc n → decimal_in (suc n) v ≡ decimal_in (suc (suc n)) v
unfolding decimal_in
decimal_enough zero v h = rw (lt-ltb v 10 h)
decimal_enough (suc n) v h =
    let l : v / 10 < 10 ^ suc n = (div-lt_iff_lt-mul (pos _)).1 (rw pow-suc at h) in
    ap (λ s. cond (ltb v 10) (face_of v ∷ []) (s ++ face_of (v % 10) ∷ [])) (decimal_enough n (v / 10) l)

decimal_step : (n v : ℕ) → 10 ≤ v → decimal_in (suc n) v ≡ decimal_in n (v / 10) ++ face_of (v % 10) ∷ []
unfolding decimal_in
decimal_step n v l = rw (le-ltb v 10 l)

pub decimal_more : (v : ℕ) → 10 ≤ v → v < 2 ^ 64 → decimal_of v ≡ decimal_of (v / 10) ++ face_of (v % 10) ∷ []
decimal_more v l h = decimal_step 19 v l ∙ ap (λ s. s ++ face_of (v % 10) ∷ []) (decimal_enough 18 (v / 10) (omega arith))

-- ---- decimal with commas
pub grouped_small : (v : ℕ) → v < 1000 → grouped_of v ≡ decimal_of v
unfolding grouped_in
grouped_small v h = rw (lt-ltb v 1000 h)

grouped_enough : (n v : ℕ) → v < 1000 ^ suc n → grouped_in (suc n) v ≡ grouped_in (suc (suc n)) v
unfolding grouped_in
grouped_enough zero v h = rw (lt-ltb v 1000 h)
grouped_enough (suc n) v h =
    let l : v / 1000 < 1000 ^ suc n = (div-lt_iff_lt-mul (pos _)).1 (rw pow-suc at h) in
    ap (λ s. cond (ltb v 1000) (decimal_of v) (s ++ 44 ∷ low_of 10 3 v)) (grouped_enough n (v / 1000) l)

grouped_step : (n v : ℕ) → 1000 ≤ v → grouped_in (suc n) v ≡ grouped_in n (v / 1000) ++ 44 ∷ low_of 10 3 v
unfolding grouped_in
grouped_step n v l = rw (le-ltb v 1000 l)

pub grouped_more : (v : ℕ) → 1000 ≤ v → v < 2 ^ 64 → grouped_of v ≡ grouped_of (v / 1000) ++ 44 ∷ low_of 10 3 v
grouped_more v l h = grouped_step 6 v l ∙ ap (λ s. s ++ 44 ∷ low_of 10 3 v) (grouped_enough 5 (v / 1000) (omega arith))
