-- The number at a place, by how many digits stand there.
use mathlib.Core.Path.{◌≡◌, refl, sym, ◌∙◌}
use mathlib.Core.List.{List}
use Prim.Native.Nat.{ℕ, ◌+◌, ◌<◌, ◌≤◌}
use native.Mathlib.Omega.{arith}
use borrow.Author.Tests.{eq-eqb, ne_eqb, ltb-true, ltb-false}
use mathlib.Core.Bool.{Bool, true, false, ◌&&◌}
use lib.Dec.{ltb, eqb}
use lib.ListN.{length, get_or, take, drop, drop_of_length-le, get_or-eq_default}
use Rattle.text.specs.Head.{head_of}
use Rattle.text.specs.Digit.{run_of, value_of}
use Rattle.text.specs.Number.{held_of, answer_of, digits_of, digits_at, is_hex}
use Rattle.std.specs.Prelude.{Option, Err}
use Rattle.text.specs.declared.found.NoNumber.TheVariants.{Nothing}

module _ (first from base : ℕ) (line : List ℕ) where
  pub digits_past : length line ≤ from → Err (Nothing from) ≡ digits_at first from base line
  unfolding digits_at digits_of head_of
  digits_past h = rw (drop_of_length-le line h)

  module _ (rest : List ℕ) (r : rest ≡ drop from line) (count : ℕ) (e : count ≡ run_of base rest) where
    pub digits_none : count ≡ 0 → Err (Nothing from) ≡ digits_at first from base line
    unfolding digits_at digits_of
    digits_none h = rw (← r, eq-eqb (run_of base rest) 0 (sym e ∙ h))

    pub digits_some : (count ≡ 0 → ⊥) → {total : Option ℕ} → total ≡ held_of (value_of base (take count rest))
        → answer_of total first (from + count) ≡ digits_at first from base line
    unfolding digits_at digits_of
    digits_some h t = rw (← r, ne_eqb (run_of base rest) 0 (λ z. h (e ∙ z)), t, e)

-- `0x` lies within the line
pub hex_within : (line : List ℕ) (from : ℕ) → is_hex line from ≡ true → from + 1 < length line
unfolding is_hex
hex_within line from h = go (ltb (from + 1) (length line)) refl
  where
    go : (t : Bool) → ltb (from + 1) (length line) ≡ t → from + 1 < length line
    go true e = ltb-true _ _ e
    go false e = absurd (past (eqb (get_or line from 0) 48) (rw (get_or-eq_default {A = ℕ} line 0 (ltb-false _ _ e)) at h))
      where
        past : (b : Bool) → b && false ≡ true → ⊥
        past true e = let z : ◌≡◌ {A = ℕ} 0 1 = cc in omega arith
        past false e = let z : ◌≡◌ {A = ℕ} 0 1 = cc in omega arith
