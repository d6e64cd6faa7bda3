-- How many bytes the numbers have that are shown.
use mathlib.Core.Path.{◌≡◌, refl}
use mathlib.Core.Bool.{Bool, true, false, cond}
use mathlib.Core.List.{[], ◌∷◌, ◌++◌}
use Prim.Native.Nat.{ℕ, zero, suc, ◌+◌, ◌-◌, ◌*◌, ◌/◌, ◌%◌, ◌<◌, ◌≤◌, ◌^◌}
use native.Mathlib.Nat.{pow-suc, div-lt_iff_lt-mul}
use native.Mathlib.Omega.{arith}
use borrow.Author.Tests.{ltb-true, ltb-false}
use lib.Dec.{ltb}
use lib.ListN.{length, length-append}
use Rattle.text.specs.Spelt.{face_of, low_of, decimal_in, decimal_of, grouped_in, grouped_of, signed_of, within_of, hex_of}
use Rattle.text.proofs.Digits.{low_length}

ten : (k : ℕ) → 0 < 10
ten k = omega arith

-- a number below 1000 has at most three digits
decimal_width : (n k v : ℕ) → v < 10 ^ suc k → length (decimal_in n v) ≤ suc k
unfolding decimal_in
decimal_width zero k v h = omega arith
decimal_width (suc n) zero v h = go (ltb v 10) refl
  where
    go : (t : Bool) → ltb v 10 ≡ t → length (cond t (face_of v ∷ []) (decimal_in n (v / 10) ++ face_of (v % 10) ∷ [])) ≤ 1
    go true e = omega arith
    go false e = let l : 10 ≤ v = ltb-false v 10 e in omega arith
decimal_width (suc n) (suc k) v h = go (ltb v 10) refl (decimal_width n k (v / 10))
  where
    go : (t : Bool) → ltb v 10 ≡ t → (v / 10 < 10 ^ suc k → length (decimal_in n (v / 10)) ≤ suc k)
        → length (cond t (face_of v ∷ []) (decimal_in n (v / 10) ++ face_of (v % 10) ∷ [])) ≤ suc (suc k)
    go true e width = omega arith
    go false e width =
        let l : v / 10 < 10 ^ suc k = (div-lt_iff_lt-mul (ten k)).1 (rw pow-suc at h) in
        let w : length (decimal_in n (v / 10)) ≤ suc k = width l in
        let s : length (decimal_in n (v / 10) ++ face_of (v % 10) ∷ []) ≡ length (decimal_in n (v / 10)) + 1 = length-append (decimal_in n (v / 10)) (face_of (v % 10) ∷ []) in
        omega arith

decimal_least : (n v : ℕ) → length (decimal_in n v) ≤ n
unfolding decimal_in
decimal_least zero v = omega arith
decimal_least (suc n) v = go (ltb v 10) (decimal_least n (v / 10))
  where
    go : (t : Bool) → length (decimal_in n (v / 10)) ≤ n → length (cond t (face_of v ∷ []) (decimal_in n (v / 10) ++ face_of (v % 10) ∷ [])) ≤ suc n
    go true w = omega arith
    go false w =
        let s : length (decimal_in n (v / 10) ++ face_of (v % 10) ∷ []) ≡ length (decimal_in n (v / 10)) + 1 = length-append (decimal_in n (v / 10)) (face_of (v % 10) ∷ []) in
        omega arith

grouped_least : (n v : ℕ) → length (grouped_in n v) ≤ 4 * n
unfolding grouped_in
grouped_least zero v = omega arith
grouped_least (suc n) v = go (ltb v 1000) refl (grouped_least n (v / 1000))
  where
    go : (t : Bool) → ltb v 1000 ≡ t → length (grouped_in n (v / 1000)) ≤ 4 * n
        → length (cond t (decimal_of v) (grouped_in n (v / 1000) ++ 44 ∷ low_of 10 3 v)) ≤ 4 * suc n
    go true e w =
        let l : v < 1000 = ltb-true v 1000 e in
        let d : length (decimal_of v) ≤ 3 = decimal_width 20 2 v l in
        omega arith
    go false e w =
        let s : length (grouped_in n (v / 1000) ++ 44 ∷ low_of 10 3 v) ≡ length (grouped_in n (v / 1000)) + length (44 ∷ low_of 10 3 v) = length-append (grouped_in n (v / 1000)) (44 ∷ low_of 10 3 v) in
        let t : length (low_of 10 3 v) ≡ 3 = low_length 10 3 v in
        omega arith

pub decimal_fits : (v : ℕ) → length (decimal_of v) ≤ 28
decimal_fits v = let w : length (decimal_of v) ≤ 20 = decimal_least 20 v in omega arith

pub grouped_fits : (v : ℕ) → length (grouped_of v) ≤ 28
grouped_fits v = grouped_least 7 v

pub signed_fits : (v : ℕ) → length (signed_of v) ≤ 28
signed_fits v = go (ltb v (2 ^ 31)) (decimal_least 20 v) (decimal_least 20 (2 ^ 32 - v))
  where
    go : (t : Bool) → length (decimal_of v) ≤ 20 → length (decimal_of (2 ^ 32 - v)) ≤ 20 → length (cond t (decimal_of v) (45 ∷ decimal_of (2 ^ 32 - v))) ≤ 28
    go true a b = omega arith
    go false a b = omega arith

within_least : (n : ℕ) → within_of n ≤ 16
within_least n = go (ltb n 1) (ltb 16 n) refl
  where
    go : (t u : Bool) → ltb 16 n ≡ u → cond t 1 (cond u 16 n) ≤ 16
    go true u e = omega arith
    go false true e = omega arith
    go false false e = ltb-false 16 n e

pub hex_fits : (n v : ℕ) → length (hex_of n v) ≤ 28
hex_fits n v =
    let l : length (low_of 16 (within_of n) v) ≡ within_of n = low_length 16 (within_of n) v in
    let w : within_of n ≤ 16 = within_least n in
    omega arith
