-- Signed numbers by sign and size. `half` is half of the whole, 2 ^ (k - 1) for words of k bits, so each law holds at every width.
use mathlib.Core.Path.{◌≡◌, refl, ap, ◌∙◌}
use mathlib.Core.Bool.{Bool, false, not, beq}
use Prim.Native.Nat.{ℕ, zero, suc, ◌+◌, ◌-◌, ◌/◌, ◌%◌, ◌≤◌, ◌<◌}
use native.Mathlib.Omega.{arith}
use borrow.Author.Tests.{lt-ltb, le-ltb}
use lib.IntN.{ℤ, pos, negsuc, neg_ℤ, nat_abs}
use lib.Signed.{lt_z, quot_z, rem_z}
use Rattle.word.specs.Number.{twos, with_sign}

-- ---- reading a word
pub below_half : (half x : ℕ) → x < half → twos half x ≡ pos x
below_half half x h = rw (lt-ltb x half h)

pub above_half : (half x : ℕ) → half ≤ x → twos half x ≡ neg_ℤ (pos (half + half - x))
above_half half x h = rw (le-ltb x half h)

less_one : (n : ℕ) → 0 < n → neg_ℤ (pos n) ≡ negsuc (n - 1)
less_one zero h = absurd (omega arith)
less_one (suc n) h = ap negsuc (omega arith)

-- the same, by the complement
pub above_ones : (half x : ℕ) → half ≤ x → x < half + half → twos half x ≡ negsuc (half + half - 1 - x)
above_ones half x h k = above_half half x h ∙ less_one (half + half - x) (omega arith) ∙ ap negsuc (omega arith)

-- ---- sign and size of a word's number
pub negative_size : (a : ℕ) → nat_abs (neg_ℤ (pos a)) ≡ a
negative_size zero = refl
negative_size (suc a) = refl

pub not_negative : (a : ℕ) → lt_z (pos a) (pos 0) ≡ false
not_negative a = le-ltb a 0 (omega arith)

-- ---- what a product, a quotient and a remainder are, by sign and size
abbrev pub signs : ℤ → ℤ → Bool
signs z w = not (beq (lt_z z (pos 0)) (lt_z w (pos 0)))

pub quotient : (z w : ℤ) → quot_z z w ≡ with_sign (signs z w) (nat_abs z / nat_abs w)
quotient (pos a) (pos b) = rw (not_negative a, not_negative b)
quotient (pos a) (negsuc b) = rw (not_negative a)
quotient (negsuc a) (pos b) = rw (not_negative b)
quotient (negsuc a) (negsuc b) = refl

pub remainder : (z w : ℤ) → rem_z z w ≡ with_sign (lt_z z (pos 0)) (nat_abs z % nat_abs w)
remainder (pos a) w = rw (not_negative a)
remainder (negsuc a) w = refl
