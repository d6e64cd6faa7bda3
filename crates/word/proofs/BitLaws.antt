-- What each bit is of an AND, an OR, an XOR and a complement, and of a number that was cut or shifted. Once, over the width.
use Prim.Native.Nat.{ℕ, zero, suc, ◌+◌, ◌*◌, ◌-◌, ◌/◌, ◌%◌, ◌^◌, ◌≤◌, ◌<◌}
use mathlib.Core.Path.{◌≡◌, refl, sym, ap, ◌∙◌}
use mathlib.Core.Bool.{Bool, true, false, not, beq, ◌&&◌, ◌||◌}
use native.Mathlib.Nat.{div-eq_of_lt, mod-lt, mul_assoc, pow-suc}
use native.Mathlib.Omega.{arith}
use lib.Bits.{bit_and, bit_or, bit_xor, and_shr, and_mod, or_shr, or_mod, xor_shr, xor_mod, shifted_even}
use lib.Dec.{eqb}
use lib.Pow.{pow-add, pow_pos, pow_mono, shr-shr, shl-shr, field, mod-mod-pow}
use Rattle.word.specs.Map.{bit}

-- an operation on digits is known by its four cases
module _ (f : ℕ → ℕ → ℕ) (g : Bool → Bool → Bool) (none : eqb (f 0 0) 1 ≡ g false false) (second : eqb (f 0 1) 1 ≡ g false true)
    (first : eqb (f 1 0) 1 ≡ g true false) (two : eqb (f 1 1) 1 ≡ g true true) where
  digits : (a b : ℕ) → a < 2 → b < 2 → eqb (f a b) 1 ≡ g (eqb a 1) (eqb b 1)
  digits zero zero h l = none
  digits zero (suc zero) h l = second
  digits (suc zero) zero h l = first
  digits (suc zero) (suc zero) h l = two
  digits zero (suc (suc b)) h l = absurd (omega arith)
  digits (suc zero) (suc (suc b)) h l = absurd (omega arith)
  digits (suc (suc a)) b h l = absurd (omega arith)

pub and_bit : (k x y : ℕ) → bit k (bit_and x y) ≡ (bit k x && bit k y)
and_bit k x y =
    rw (and_shr x y k, and_mod (x / 2 ^ k) (y / 2 ^ k) 1)
    (digits bit_and ◌&&◌ refl refl refl refl (x / 2 ^ k % 2) (y / 2 ^ k % 2) (omega arith) (omega arith))

pub or_bit : (k x y : ℕ) → bit k (bit_or x y) ≡ (bit k x || bit k y)
or_bit k x y =
    rw (or_shr x y k, or_mod (x / 2 ^ k) (y / 2 ^ k) 1)
    (digits bit_or ◌||◌ refl refl refl refl (x / 2 ^ k % 2) (y / 2 ^ k % 2) (omega arith) (omega arith))

-- on where the two differ
pub xor_bit : (k x y : ℕ) → bit k (bit_xor x y) ≡ not (beq (bit k x) (bit k y))
xor_bit k x y =
    rw (xor_shr x y k, xor_mod (x / 2 ^ k) (y / 2 ^ k) 1)
    (digits bit_xor (λ a b. not (beq a b)) refl refl refl refl (x / 2 ^ k % 2) (y / 2 ^ k % 2) (omega arith) (omega arith))

-- shifted to the right
pub shr_bit : (s k x : ℕ) → bit k (x / 2 ^ s) ≡ bit (s + k) x
shr_bit s k x = rw (shr-shr x s k)

-- shifted to the left, above the zeros that came in
pub shl_bit : (s k x : ℕ) → bit (s + k) (x * 2 ^ s) ≡ bit k x
shl_bit s k x = rw (← shr-shr (x * 2 ^ s) s k, shl-shr x s)

-- cut to w bits
pub low_bit : (w k x : ℕ) → k < w → bit k (x % 2 ^ w) ≡ bit k x
low_bit w k x h =
    let j = w - suc k in
    let e : w ≡ j + 1 + k = omega arith in
    rw (e, field x (j + 1) k, mod-mod-pow (x / 2 ^ k) j 1)

-- a number of w bits has none above them
pub no_bit : (w k x : ℕ) → x < 2 ^ w → w ≤ k → bit k x ≡ false
no_bit w k x small h = rw (div-eq_of_lt {n = x} {m = 2 ^ k} (let p = pow_mono h in omega arith))

pub high_bit : (w k x : ℕ) → w ≤ k → bit k (x % 2 ^ w) ≡ false
high_bit w k x h = no_bit w k (x % 2 ^ w) (mod-lt x (pow_pos w)) h

-- the zeros that a shift to the left brings in
pub zero_bit : (s k x : ℕ) → k < s → bit k (x * 2 ^ s) ≡ false
zero_bit s k x h =
    let j = s - suc k in
    let e : s ≡ suc j + k = omega arith in
    rw (e, pow-add 2 (suc j) k, ← mul_assoc x (2 ^ suc j) (2 ^ k), shl-shr (x * 2 ^ suc j) k, shifted_even x j)

turned : (a : ℕ) → a < 2 → eqb (1 - a) 1 ≡ not (eqb a 1)
turned zero h = refl
turned (suc zero) h = refl
turned (suc (suc a)) h = absurd (omega arith)

next_bit : (k x : ℕ) → bit k (x / 2) ≡ bit (suc k) x
next_bit k x = let e : 1 + k ≡ suc k = omega arith in shr_bit 1 k x ∙ rw e

-- the complement of a number of w bits
pub complement_bit : (w k x : ℕ) → k < w → x < 2 ^ w → bit k (2 ^ w - 1 - x) ≡ not (bit k x)
complement_bit zero k x h small = absurd (omega arith)
complement_bit (suc w) zero x h small =
    let power = pow-suc 2 w in
    let some = pow_pos w in
    let low : (2 ^ suc w - 1 - x) / 2 ^ 0 % 2 ≡ 1 - x / 2 ^ 0 % 2 = omega arith in
    rw low (turned (x / 2 ^ 0 % 2) (omega arith))
complement_bit (suc w) (suc k) x h small =
    let power = pow-suc 2 w in
    let some = pow_pos w in
    let half : (2 ^ suc w - 1 - x) / 2 ≡ 2 ^ w - 1 - x / 2 = omega arith in
    sym (next_bit k (2 ^ suc w - 1 - x)) ∙ ap (bit k) half ∙ complement_bit w k (x / 2) (omega arith) (omega arith) ∙ ap not (next_bit k x)
