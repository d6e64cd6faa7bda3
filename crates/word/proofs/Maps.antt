-- A map's bits after one of them was turned on or off: that one is as told, the others are as they were. Once, over the width.
use Prim.Native.Nat.{ℕ, zero, suc, ◌+◌, ◌-◌, ◌/◌, ◌%◌, ◌^◌, ◌<◌}
use mathlib.Core.Path.{◌≡◌, refl, ◌∙◌}
use mathlib.Core.Logic.{◌≢◌}
use mathlib.Core.Bool.{Bool, true, false, not, beq, cond}
use native.Mathlib.Nat.{div-eq_of_lt, div_self, mul-mod_left, pow-suc}
use native.Mathlib.Decide.{dec_lt}
use native.Mathlib.Omega.{arith}
use lib.Bits.{bit_xor, xor_shr, xor_mod, xor_zero_r, xor_lt}
use lib.Dec.{eqb}
use lib.Pow.{pow-add, pow_pos, pow-lt, shl-shr}
use Rattle.word.specs.Map.{bit, with_bit}

-- the power of two in place k has no other bit
lower_off : (k m : ℕ) → m < k → 2 ^ k / 2 ^ m % 2 ≡ 0
lower_off k m h =
    let d = k - (m + 1) in
    let e : k ≡ suc d + m = omega arith in
    rw (e, pow-add 2 (suc d) m, shl-shr (2 ^ suc d) m, pow-suc 2 d) (mul-mod_left (2 ^ d) 2)

other_off : (k m : ℕ) → m ≢ k → 2 ^ k / 2 ^ m % 2 ≡ 0
other_off k m ne =
    elim (dec_lt m k) [
      | yes h ↦ lower_off k m h
      | no h ↦ let higher : k < m = omega arith in rw (div-eq_of_lt {n = 2 ^ k} {m = 2 ^ m} (pow-lt higher))
    ]

-- bit m of a map in which bit k was turned round
turned : (k m map : ℕ) → bit_xor map (2 ^ k) / 2 ^ m % 2 ≡ bit_xor (map / 2 ^ m % 2) (2 ^ k / 2 ^ m % 2)
turned k m map = rw (xor_shr map (2 ^ k) m) (xor_mod (map / 2 ^ m) (2 ^ k / 2 ^ m) 1)

turned_other : (k m map : ℕ) → m ≢ k → bit m (bit_xor map (2 ^ k)) ≡ bit m map
turned_other k m map ne = rw (turned k m map, other_off k m ne, xor_zero_r (map / 2 ^ m % 2))

not_one : (x : ℕ) → x < 2 → eqb (bit_xor x 1) 1 ≡ not (eqb x 1)
not_one zero h = refl
not_one (suc zero) h = refl
not_one (suc (suc x)) h = absurd (omega arith)

turned_same : (k map : ℕ) → bit k (bit_xor map (2 ^ k)) ≡ not (bit k map)
turned_same k map = rw (turned k k map, div_self (pow_pos k)) (not_one (map / 2 ^ k % 2) (omega arith))

pub bit_told : (k : ℕ) (on : Bool) (map : ℕ) → bit k (with_bit k on map) ≡ on
unfolding with_bit
bit_told k on map = go (bit k map) on refl
  where
    go : (was on : Bool) → bit k map ≡ was → bit k (cond (beq was on) map (bit_xor map (2 ^ k))) ≡ on
    go true true e = e
    go false false e = e
    go true false e = turned_same k map ∙ rw e
    go false true e = turned_same k map ∙ rw e

pub bit_other : (k m : ℕ) (on : Bool) (map : ℕ) → m ≢ k → bit m (with_bit k on map) ≡ bit m map
unfolding with_bit
bit_other k m on map ne = go (beq (bit k map) on)
  where
    go : (same : Bool) → bit m (cond same map (bit_xor map (2 ^ k))) ≡ bit m map
    go true = refl
    go false = turned_other k m map ne

-- a map of w bits keeps to them
pub with_small : (k w : ℕ) (on : Bool) (map : ℕ) → k < w → map < 2 ^ w → with_bit k on map < 2 ^ w
unfolding with_bit
with_small k w on map h small = go (beq (bit k map) on)
  where
    go : (same : Bool) → cond same map (bit_xor map (2 ^ k)) < 2 ^ w
    go true = small
    go false = xor_lt w map (2 ^ k) small (pow-lt h)

-- a bit told as it is
pub bit_kept : (k map : ℕ) → with_bit k (bit k map) map ≡ map
unfolding with_bit
bit_kept k map = go (bit k map)
  where
    go : (b : Bool) → cond (beq b b) map (bit_xor map (2 ^ k)) ≡ map
    go true = refl
    go false = refl
