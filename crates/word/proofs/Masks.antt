-- What a word is after another was written over it under a mask: bit by bit, and field by field. Once, over the width.
use Prim.Native.Nat.{ℕ, ◌-◌, ◌/◌, ◌%◌, ◌^◌, ◌<◌}
use mathlib.Core.Path.{◌≡◌, refl, sym, ◌∙◌}
use mathlib.Core.Bool.{Bool, true, false, not, cond, ◌&&◌, ◌||◌}
use native.Mathlib.Nat.{mod-mod, mod-eq_of_lt, sub-zero, lt_of_le_of_lt}
use lib.Bits.{bit_and, bit_or, and_shr, and_mod, or_shr, or_mod, and_zero_r, or_zero_l, or_zero_r, and_mask, and_le_l, and_le_r, or_lt}
use Rattle.word.specs.Map.{bit}
use Rattle.word.specs.Mask.{overlay}
use Rattle.word.proofs.BitLaws.{and_bit, or_bit, complement_bit}
use Rattle.word.proofs.Within.{BitsIn}

-- a field of j bits from bit k on, by the fields of the parts
field_of : (w mask old new k j : ℕ)
    → overlay w mask old new / 2 ^ k % 2 ^ j
    ≡ bit_or (bit_and (old / 2 ^ k % 2 ^ j) (((2 ^ w - 1) - mask) / 2 ^ k % 2 ^ j)) (bit_and (new / 2 ^ k % 2 ^ j) (mask / 2 ^ k % 2 ^ j))
field_of w mask old new k j =
    let outside = (2 ^ w - 1) - mask in
    rw (or_shr (bit_and old outside) (bit_and new mask) k, and_shr old outside k, and_shr new mask k)
    (rw (or_mod (bit_and (old / 2 ^ k) (outside / 2 ^ k)) (bit_and (new / 2 ^ k) (mask / 2 ^ k)) j) (rw (and_mod (old / 2 ^ k) (outside / 2 ^ k) j, and_mod (new / 2 ^ k) (mask / 2 ^ k) j)))

module _ (w mask old new k j : ℕ) where
  abbrev inside : ℕ
  inside = mask / 2 ^ k % 2 ^ j

  abbrev beyond : ℕ
  beyond = ((2 ^ w - 1) - mask) / 2 ^ k % 2 ^ j

  -- a field that the mask covers is the new word's
  pub field_taken : inside ≡ 2 ^ j - 1 → beyond ≡ 0 → overlay w mask old new / 2 ^ k % 2 ^ j ≡ new / 2 ^ k % 2 ^ j
  field_taken all none = rw (field_of w mask old new k j, all, none, and_zero_r (old / 2 ^ k % 2 ^ j), or_zero_l (bit_and (new / 2 ^ k % 2 ^ j) (2 ^ j - 1))) (and_mask (new / 2 ^ k % 2 ^ j) j ∙ mod-mod (new / 2 ^ k) (2 ^ j))

  -- a field that the mask leaves is the old word's
  pub field_kept : inside ≡ 0 → beyond ≡ 2 ^ j - 1 → overlay w mask old new / 2 ^ k % 2 ^ j ≡ old / 2 ^ k % 2 ^ j
  field_kept none all = rw (field_of w mask old new k j, all, none, and_zero_r (new / 2 ^ k % 2 ^ j), or_zero_r (bit_and (old / 2 ^ k % 2 ^ j) (2 ^ j - 1))) (and_mask (old / 2 ^ k % 2 ^ j) j ∙ mod-mod (old / 2 ^ k) (2 ^ j))

one_of : (m o n : Bool) → ((o && not m) || (n && m)) ≡ cond m n o
one_of true true true = refl
one_of true true false = refl
one_of true false true = refl
one_of true false false = refl
one_of false true true = refl
one_of false true false = refl
one_of false false true = refl
one_of false false false = refl

module _ (w mask old new : ℕ) (fits : mask < 2 ^ w) where
  pub overlaid_bit : (k : ℕ) → k < w → bit k (overlay w mask old new) ≡ cond (bit k mask) (bit k new) (bit k old)
  overlaid_bit k h =
      let outside = (2 ^ w - 1) - mask in
      or_bit k (bit_and old outside) (bit_and new mask)
      ∙ rw (and_bit k old outside, and_bit k new mask, complement_bit w k mask h fits) (one_of (bit k mask) (bit k old) (bit k new))

  pub overlaid_within : (m : ℕ) → BitsIn w m old → BitsIn w m mask → BitsIn w m (overlay w mask old new)
  overlaid_within m in-old in-mask k h on = go (bit k mask) refl
    where
      go : (b : Bool) → bit k mask ≡ b → bit k m ≡ true
      go true e = in-mask k h e
      go false e = in-old k h (sym (overlaid_bit k h ∙ rw e) ∙ on)

pub overlaid_small : (w mask old new : ℕ) → mask < 2 ^ w → old < 2 ^ w → overlay w mask old new < 2 ^ w
overlaid_small w mask old new hm ho =
    or_lt w (bit_and old ((2 ^ w - 1) - mask)) (bit_and new mask) (lt_of_le_of_lt (and_le_l old ((2 ^ w - 1) - mask)) ho) (lt_of_le_of_lt (and_le_r new mask) hm)

-- under an empty mask nothing is written
pub overlaid_none : (w old new : ℕ) → old < 2 ^ w → overlay w 0 old new ≡ old
overlaid_none w old new h = rw (sub-zero, and_zero_r new, or_zero_r (bit_and old (2 ^ w - 1))) (and_mask old w ∙ mod-eq_of_lt h)
