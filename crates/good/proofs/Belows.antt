-- Lists of small numbers: their parts, what stands for each element, and the list written out, whose numbers omega can read.
use Prim.{tt}
use Prim.Native.Nat.{ℕ, zero, suc, ◌+◌, ◌<◌}
use mathlib.Core.Path.{◌≡◌}
use mathlib.Core.List.{List, [], ◌∷◌, ◌++◌}
use native.Mathlib.Decide.{ℕ_discrete, dec_lt}
use native.Mathlib.Omega.{arith}
use lib.ListN.{length, get_or, set, length-append, length-set, get_or-append, get_or-eq_default}
use lib.Seq.{get_or-append-add, get_or-set_same, get_or-set_other}
use Rattle.word.specs.Lists.{flat, Below}
use Rattle.word.proofs.Lists.{below_nil, below_cons, below_append}

-- ---- the two parts of a list

pub below_left : {m : ℕ} (k l : List ℕ) → Below m (k ++ l) → Below m k
below_left k l h i hi = rw (get_or-append k l 0 i hi) at (h i (omega (arith, length-append k l)))

pub below_right : {m : ℕ} (k l : List ℕ) → Below m (k ++ l) → Below m l
below_right k l h i hi = rw (get_or-append-add k l i 0) at (h (length k + i) (omega (arith, length-append k l)))

-- what is read past the end is 0
pub below_any : {m : ℕ} (l : List ℕ) → Below m l → 0 < m → (i : ℕ) → get_or l i 0 < m
below_any l h some i =
    elim (dec_lt i (length l)) [
      | yes inside ↦ h i inside
      | no past ↦ rw (get_or-eq_default l 0 {n = i} (omega arith)) some
    ]

-- ---- one number anew

pub below_set : {m : ℕ} (l : List ℕ) (k x : ℕ) → Below m l → x < m → Below m (set l k x)
below_set {m} l k x h hx i hi = by (ℕ_discrete i k)
  where
    inside : i < length l
    inside = omega (arith, length-set l k x)

    by : Dec (i ≡ k) → get_or (set l k x) i 0 < m
    by (yes e) = rw (e, get_or-set_same l k x 0 (let place : k < length l = omega (arith, inside) in place)) hx
    by (no apart) = rw (get_or-set_other l k i x 0 apart) (h i inside)

-- ---- the numbers that each element stands for

module _ {m : ℕ} {A : Type 0} (g : A → List ℕ) where
  pub each_of : (xs : List A) (d : A) → Below m (flat g xs) → (i : ℕ) → i < length xs → Below m (g (get_or xs i d))
  each_of [] d h i hi = absurd (omega arith)
  each_of (x ∷ xs) d h zero hi = below_left (g x) (flat g xs) h
  each_of (x ∷ xs) d h (suc i) hi = each_of xs d (below_right (g x) (flat g xs) h) i (omega arith)

  pub of_each : (xs : List A) (d : A) → ((i : ℕ) → i < length xs → Below m (g (get_or xs i d))) → Below m (flat g xs)
  of_each [] d h = below_nil m
  of_each (x ∷ xs) d h =
      below_append (g x) (flat g xs) (h 0 (omega arith)) (of_each xs d (λ i hi. h (suc i) (omega arith)))

-- ---- a list written out

abbrev pub Each : ℕ → List ℕ → Type 0
Each m [] = Unit {0}
Each m (x ∷ l) = (x < m) × Each m l

pub each_below : {m : ℕ} (l : List ℕ) → Each m l → Below m l
each_below {m} [] h = below_nil m
each_below (x ∷ l) h = below_cons l h.0 (each_below l h.1)

pub below_each : {m : ℕ} (l : List ℕ) → Below m l → Each m l
below_each [] h = tt
below_each (x ∷ l) h = (h 0 (omega arith), below_each l (λ i hi. h (suc i) (omega arith)))
