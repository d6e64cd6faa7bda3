-- Two lines with a common beginning: what is found within it is found in both.
use mathlib.Core.Path.{◌≡◌, refl, ap, sym, ◌∙◌}
use mathlib.Core.Bool.{Bool, true, false, cond}
use mathlib.Core.List.{List, [], ◌∷◌, ◌++◌}
use Prim.Native.Nat.{ℕ, suc, ◌+◌, ◌-◌, ◌<◌, ◌≤◌}
use native.Mathlib.Omega.{arith}
use lib.ListN.{length, drop, length-drop}
use lib.Seq.{drop-append-le}
use Rattle.text.specs.Head.{head_of}

head_same : (p : ℕ → Bool) (d t t' : List ℕ) → head_of p (d ++ t) < length d → head_of p (d ++ t') ≡ head_of p (d ++ t)
unfolding head_of
head_same p [] t t' h = absurd (omega arith)
head_same p (b ∷ d) t t' h = go (p b) h (head_same p d t t')
  where
    go : (x : Bool) → cond x (suc (head_of p (d ++ t))) 0 < suc (length d) → (head_of p (d ++ t) < length d → head_of p (d ++ t') ≡ head_of p (d ++ t))
        → cond x (suc (head_of p (d ++ t'))) 0 ≡ cond x (suc (head_of p (d ++ t))) 0
    go true h ih = ap suc (ih (omega arith))
    go false h ih = refl

module _ (c t t' : List ℕ) where
  -- what a function of what stands at a place tells there
  pub at_same : (f : List ℕ → ℕ) → ((d : List ℕ) → f (d ++ t) < length d → f (d ++ t') ≡ f (d ++ t))
      → (at : ℕ) → at + f (drop at (c ++ t)) < length c → f (drop at (c ++ t')) ≡ f (drop at (c ++ t))
  at_same f told at h =
      let l : at ≤ length c = omega arith in
      let e : drop at (c ++ t) ≡ drop at c ++ t = drop-append-le at c t l in
      let n : f (drop at c ++ t) ≡ f (drop at (c ++ t)) = ap f (sym e) in
      let k : length (drop at c) ≡ length c - at = length-drop at c in
      ap f (drop-append-le at c t' l) ∙ told (drop at c) (omega arith) ∙ n

  pub behind_same : (p : ℕ → Bool) (at : ℕ) → at + head_of p (drop at (c ++ t)) < length c → head_of p (drop at (c ++ t')) ≡ head_of p (drop at (c ++ t))
  behind_same p at h = at_same (head_of p) (λ d. head_same p d t t') at h
