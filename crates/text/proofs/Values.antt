-- The number that digits write, one digit on; and that it never falls.
use mathlib.Core.Path.{◌≡◌, refl}
use mathlib.Core.Bool.{Bool, true, false, cond}
use mathlib.Core.List.{List, [], ◌∷◌}
use Prim.Native.Nat.{ℕ, ◌+◌, ◌*◌, ◌-◌, ◌<◌, ◌≤◌, ◌^◌}
use native.Mathlib.Nat.{le_refl, le_trans, mul-le-mul_left}
use native.Mathlib.Numerals.{add-one}
use native.Mathlib.Omega.{arith}
use borrow.Author.Tests.{leb-true, lt-ltb, le-ltb}
use lib.Dec.{ltb, leb}
use lib.ListN.{length, get_or, drop, drop_of_length-le}
use lib.Seq.{drop-cons}
use Rattle.text.specs.Digit.{digit_of, value_from}
use Rattle.text.specs.Number.{held_of}
use Rattle.std.specs.Prelude.{Some, None}

pub value_past : (base v : ℕ) (s : List ℕ) (i : ℕ) → length s ≤ i → value_from base v (drop i s) ≡ v
unfolding value_from
value_past base v s i h = rw (drop_of_length-le s h)

pub value_grows : (base : ℕ) → 1 ≤ base → (v : ℕ) (s : List ℕ) → v ≤ value_from base v s
unfolding value_from
value_grows base h v [] = le_refl v
value_grows base h v (b ∷ s) =
    let more : v * 1 ≤ v * base = mul-le-mul_left v h in
    let next : v * base + digit_of b ≤ value_from base (v * base + digit_of b) s = value_grows base h (v * base + digit_of b) s in
    omega arith

pub digit_small : (b : ℕ) → digit_of b ≤ 16
unfolding digit_of
digit_small b = go (ltb b 48) (leb b 57) (ltb b 65) (leb b 70) (ltb b 97) (leb b 102) (leb-true b 57) (leb-true b 70) (leb-true b 102)
  where
    go : (p q r s t u : Bool) → (q ≡ true → b ≤ 57) → (s ≡ true → b ≤ 70) → (u ≡ true → b ≤ 102)
        → cond p 16 (cond q (b - 48) (cond r 16 (cond s (b - 65 + 10) (cond t 16 (cond u (b - 97 + 10) 16))))) ≤ 16
    go true q r s t u f g h = le_refl 16
    go false true r s t u f g h = let l : b ≤ 57 = f refl in omega arith
    go false false true s t u f g h = le_refl 16
    go false false false true t u f g h = let l : b ≤ 70 = g refl in omega arith
    go false false false false true u f g h = le_refl 16
    go false false false false false true f g h = let l : b ≤ 102 = h refl in omega arith
    go false false false false false false f g h = le_refl 16

pub worth_small : (b d : ℕ) → d ≡ digit_of b → d ≤ 16
worth_small b d e = rw e (digit_small b)

-- at a digit
module _ (base v : ℕ) (s : List ℕ) (i : ℕ) (h : i < length s) where
  pub value_goes : value_from base (v * base + digit_of (get_or s i 0)) (drop (i + 1) s) ≡ value_from base v (drop i s)
  unfolding value_from
  value_goes = rw (drop-cons s i 0 h, add-one i)

  pub sum_over : 1 ≤ base → 2 ^ 64 ≤ v * base + digit_of (get_or s i 0) → 2 ^ 64 ≤ value_from base v (drop i s)
  sum_over k l = rw (← value_goes) (le_trans l (value_grows base k (v * base + digit_of (get_or s i 0)) (drop (i + 1) s)))

pub held : (v : ℕ) → v < 2 ^ 64 → held_of v ≡ Some v
held v h = rw (lt-ltb v (2 ^ 64) h)

pub not_held : (v : ℕ) → 2 ^ 64 ≤ v → held_of v ≡ None
not_held v h = rw (le-ltb v (2 ^ 64) h)
