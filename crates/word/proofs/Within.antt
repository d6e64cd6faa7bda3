-- "Pending within installed" as a mask says it and bit by bit: the same. Once, over the width.
use Prim.Native.Nat.{ℕ, zero, suc, ◌+◌, ◌*◌, ◌-◌, ◌/◌, ◌%◌, ◌^◌, ◌<◌, min}
use mathlib.Core.Path.{◌≡◌, sym, ◌∙◌}
use mathlib.Core.Bool.{true}
use native.Mathlib.Nat.{min-le_left, min-le_right, pow-suc}
use native.Mathlib.Decide.{ℕ_discrete}
use native.Mathlib.Omega.{arith}
use borrow.Author.Tests.{eqb-true, eq-eqb}
use lib.Bits.{bit_and, and_step, and_zero_l}
use lib.Pow.{pow_pos, shr-shr}
use Rattle.word.specs.Map.{bit}

-- every bit of x is a bit of m
abbrev pub BitsIn : ℕ → ℕ → ℕ → Type 0
BitsIn w m x = (k : ℕ) → k < w → bit k x ≡ true → bit k m ≡ true

-- bit k of the half is the next bit of the whole
half_bit : (k x : ℕ) → bit k (x / 2) ≡ bit (suc k) x
half_bit k x =
    let e : 1 + k ≡ suc k = omega arith in
    rw (shr-shr x 1 k, e)

module _ (w m x : ℕ) (fits : m < 2 ^ suc w) where
  abbrev outside : ℕ
  outside = (2 ^ suc w - 1) - m

  outside_half : outside / 2 ≡ (2 ^ w - 1) - m / 2
  outside_half = let power = pow-suc 2 w in let some = pow_pos w in omega arith

  outside_low : outside % 2 ≡ 1 - m % 2
  outside_low = let power = pow-suc 2 w in let some = pow_pos w in omega arith

  -- one bit and the rest
  parts : bit_and x outside ≡ bit_and (x / 2) ((2 ^ w - 1) - m / 2) * 2 + min (x % 2) (1 - m % 2)
  parts = and_step x outside ∙ rw (outside_half, outside_low)

-- the lowest bit
low_in : (m x : ℕ) → (bit 0 x ≡ true → bit 0 m ≡ true) → min (x % 2) (1 - m % 2) ≡ 0
low_in m x b =
    elim (ℕ_discrete (x % 2) 1) [
      | yes odd ↦
          let one : x / 2 ^ 0 % 2 ≡ 1 = omega arith in
          let m-odd : m / 2 ^ 0 % 2 ≡ 1 = eqb-true (m / 2 ^ 0 % 2) 1 (b (eq-eqb (x / 2 ^ 0 % 2) 1 one)) in
          omega (arith, min-le_right (x % 2) (1 - m % 2))
      | no even ↦ omega (arith, min-le_left (x % 2) (1 - m % 2))
    ]

in_low : (m x : ℕ) → min (x % 2) (1 - m % 2) ≡ 0 → bit 0 x ≡ true → bit 0 m ≡ true
in_low m x e on =
    let odd : x / 2 ^ 0 % 2 ≡ 1 = eqb-true (x / 2 ^ 0 % 2) 1 on in
    elim (ℕ_discrete (m % 2) 1) [
      | yes h ↦ let one : m / 2 ^ 0 % 2 ≡ 1 = omega arith in eq-eqb (m / 2 ^ 0 % 2) 1 one
      | no h ↦
          let x-odd : x % 2 ≡ 1 = omega arith in
          let m-even : 1 - m % 2 ≡ 1 = omega arith in
          let wrong : ◌≡◌ {A = ℕ} 1 0 = rw (x-odd, m-even) at e in
          absurd (omega arith)
    ]

pub within_masked : (w m x : ℕ) → m < 2 ^ w → x < 2 ^ w → BitsIn w m x → bit_and x ((2 ^ w - 1) - m) ≡ 0
within_masked zero m x hm hx b = let e : x ≡ 0 = omega arith in rw e (and_zero_l ((2 ^ 0 - 1) - m))
within_masked (suc w) m x hm hx b =
    let power = pow-suc 2 w in
    let rest =
    within_masked w (m / 2) (x / 2) (omega arith) (omega arith) (λ k h on. half_bit k m ∙ b (suc k) (omega arith) (sym (half_bit k x) ∙ on)) in
    rw (parts w m x hm, rest, low_in m x (b 0 (omega arith)))

pub masked_within : (w m x : ℕ) → m < 2 ^ w → bit_and x ((2 ^ w - 1) - m) ≡ 0 → BitsIn w m x
masked_within zero m x hm e k h on = absurd (omega arith)
masked_within (suc w) m x hm e zero h on =
    let none : bit_and (x / 2) ((2 ^ w - 1) - m / 2) * 2 + min (x % 2) (1 - m % 2) ≡ 0 = sym (parts w m x hm) ∙ e in
    in_low m x (omega arith) on
masked_within (suc w) m x hm e (suc k) h on =
    let power = pow-suc 2 w in
    let none : bit_and (x / 2) ((2 ^ w - 1) - m / 2) * 2 + min (x % 2) (1 - m % 2) ≡ 0 = sym (parts w m x hm) ∙ e in
    let rest : bit_and (x / 2) ((2 ^ w - 1) - m / 2) ≡ 0 = omega arith in
    sym (half_bit k m) ∙ masked_within w (m / 2) (x / 2) (omega arith) rest k (omega arith) (half_bit k x ∙ on)
