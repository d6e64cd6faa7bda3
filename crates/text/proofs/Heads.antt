-- How many bytes at the head of a list pass a test.
use Rattle.std.specs.List.{prefix_len}
use mathlib.Core.Path.{◌≡◌, refl, ap}
use mathlib.Core.Bool.{Bool, true, false, cond}
use mathlib.Core.List.{List, [], ◌∷◌}
use Prim.Native.Nat.{ℕ, suc, ◌+◌, ◌-◌, ◌<◌, ◌≤◌}
use native.Mathlib.Nat.{le_refl}
use native.Mathlib.Numerals.{add-one}
use native.Mathlib.Omega.{arith}
use lib.ListN.{length, get_or, take, drop, length-drop}
use lib.Seq.{drop-cons}
use Rattle.text.specs.Head.{head_of}

-- the library's word for it
pub head_is : (p : ℕ → Bool) (s : List ℕ) → prefix_len p s ≡ head_of p s
unfolding head_of
head_is p [] = refl
head_is p (b ∷ s) = ap (λ n. cond (p b) n 0) (let e : prefix_len p s ≡ head_of p s = head_is p s in omega arith)

-- where each byte of a list passes, so does the next, and each behind it
pub head_each : (p : ℕ → Bool) (s : List ℕ) (i : ℕ) → i < length s → head_of p (drop i s) ≡ length (drop i s)
    → (p (get_or s i 0) ≡ true) × (head_of p (drop (i + 1) s) ≡ length (drop (i + 1) s))
unfolding head_of
head_each p s i h e = go (p (get_or s i 0)) refl (rw (drop-cons s i 0 h) at e)
  where
    go : (x : Bool) → p (get_or s i 0) ≡ x → cond (p (get_or s i 0)) (suc (head_of p (drop (suc i) s))) 0 ≡ suc (length (drop (suc i) s))
        → (p (get_or s i 0) ≡ true) × (head_of p (drop (i + 1) s) ≡ length (drop (i + 1) s))
    go true y k = let l : suc (head_of p (drop (suc i) s)) ≡ suc (length (drop (suc i) s)) = rw y at k in (y, rw (add-one i) (omega arith))
    go false y k = let l : 0 ≡ suc (length (drop (suc i) s)) = rw y at k in absurd (omega arith)

-- the head of a list passes as a whole
pub head_whole : (p : ℕ → Bool) (s : List ℕ) → head_of p (take (head_of p s) s) ≡ length (take (head_of p s) s)
unfolding head_of
head_whole p [] = refl
head_whole p (b ∷ s) = go (p b) refl (head_whole p s)
  where
    go : (x : Bool) → p b ≡ x → head_of p (take (head_of p s) s) ≡ length (take (head_of p s) s)
        → head_of p (take (cond x (suc (head_of p s)) 0) (b ∷ s)) ≡ length (take (cond x (suc (head_of p s)) 0) (b ∷ s))
    go true y ih = rw y (ap suc ih)
    go false y ih = refl

pub head_fits : (p : ℕ → Bool) (s : List ℕ) → head_of p s ≤ length s
unfolding head_of
head_fits p [] = le_refl 0
head_fits p (b ∷ s) = fits (p b) (head_fits p s)
  where
    fits : (t : Bool) {n m : ℕ} → n ≤ m → cond t (suc n) 0 ≤ suc m
    fits true h = omega arith
    fits false h = omega arith

-- a head that is not empty ends within the line
pub head_within : (p : ℕ → Bool) (line : List ℕ) (from to : ℕ) → to ≡ from + head_of p (drop from line) → (to ≡ from → ⊥) → to ≤ length line
head_within p line from to e some =
    let fits : head_of p (drop from line) ≤ length line - from = rw (← length-drop from line) (head_fits p (drop from line)) in
    omega arith
