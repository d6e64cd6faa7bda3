-- Lists that std's functions make, as `tabulate` and `some_of` say them.
use Prim.Native.Nat.{ℕ, zero, suc, ◌+◌, ◌<◌, ◌≤◌}
use Prim.{tt}
use mathlib.Core.Path.{subst, ◌≡◌, refl, sym, ◌∙◌}
use mathlib.Core.Bool.{Bool, true, false, ◌||◌}
use mathlib.Core.List.{List}
use native.Mathlib.Decide.{ℕ_discrete, dec_lt}
use native.Mathlib.Omega.{arith}
use lib.ListN.{length, get_or}
use denote.Param.Members.{Mut, Called}
use Rattle.std.specs.Array.{IsFromFnResult, IsFromFnResultFrom}
use Rattle.std.specs.Bool.{MatchBool}
use Rattle.std.specs.List.{AllWithin, HoldsAt}
use Rattle.word.specs.Lists.{tabulate}
use Rattle.word.proofs.Lists.{tabulate_ext, tabulate_get_d}
use Rattle.device.specs.Line.{some_of}

-- an array whose every element is told
pub made : {A : Type 0} (g : ℕ → A) (ys : List A) (n : ℕ) (d : A) → length ys ≡ n → ((i : ℕ) → i < n → get_or ys i d ≡ g i) → ys ≡ tabulate n g
made g ys n d e h = sym (tabulate_get_d ys d) ∙ rw e (tabulate_ext n (λ (i : ℕ). get_or ys i d) g h)

-- what `from_fn` makes, by a closure that stays as it is and gives h of each place
module _ {F A : Type 0} (g : Mut F (ℕ × Unit {0}) A) (f : F) (h : ℕ → A) (tells : (i : ℕ) (y : A) (q : F) → Called g f (i, tt) y q → (q ≡ f) × (y ≡ h i)) (ys : List A) where
  each_told : (i n : ℕ) → IsFromFnResultFrom g f ys i n → (k : ℕ) (d : A) → i ≤ k → k < i + n → get_or ys k d ≡ h k
  each_told i zero m k d low high = absurd (omega arith)
  each_told i (suc n) (q, y, at, called, more) k d low high =
      let told = tells i y q called in
      elim (ℕ_discrete k i) [
        | yes e ↦ rw e (at.1 d ∙ told.1)
        | no ne ↦ each_told (i + 1) n (subst (λ (p : F). IsFromFnResultFrom g p ys (i + 1) n) told.0 more) k d (omega arith) (omega arith)
      ]

  pub made_by : (n : ℕ) (d : A) → IsFromFnResult g f ys n → ys ≡ tabulate n h
  made_by n d r = made h ys n d r.long (λ i l. each_told 0 n r.each i d (omega arith) (omega arith))

-- what `cases_from_any` says of the answer
abbrev pub Found : {X : Type 0} → (X → Bool) → List X → Bool → Type 0
Found t xs r = MatchBool r ((k : ℕ) × (k < length xs) × HoldsAt (λ x. t x ≡ true) xs k) (AllWithin (λ x. t x ≡ false) xs 0 (length xs))

module _ {D : Type 0} (none : D) (test : D → Bool) (line : List D) where
  found : (n k : ℕ) → k < n → test (get_or line k none) ≡ true → some_of none test n line ≡ true
  unfolding some_of
  found zero k h on = absurd (omega arith)
  found (suc n) k h on =
      elim (dec_lt k n) [
        | yes lower ↦ rw (found n k lower on)
        | no not_lower ↦ let last : k ≡ n = omega arith in or_true (some_of none test n line) (test (get_or line n none)) (rw last at on)
      ]
    where
      or_true : (a b : Bool) → b ≡ true → (a || b) ≡ true
      or_true true b e = refl
      or_true false b e = e

  nothing : (n : ℕ) → ((k : ℕ) → k < n → test (get_or line k none) ≡ false) → some_of none test n line ≡ false
  unfolding some_of
  nothing zero h = refl
  nothing (suc n) h = rw (nothing n (λ k l. h k (omega arith)), h n (omega arith))

  pub some_told : {X : Type 0} (t : X → Bool) (xs : List X) (d : X) (n : ℕ) → length xs ≡ n →
      ((k : ℕ) → k < n → t (get_or xs k d) ≡ test (get_or line k none)) → (r : Bool) → Found t xs r → r ≡ some_of none test n line
  some_told t xs d n e same true (k, l, h) =
      let inside : k < n = omega arith in
      sym (found n k inside (sym (same k inside) ∙ h d))
  some_told t xs d n e same false h = sym (nothing n (λ k l. sym (same k l) ∙ h k d (omega arith) (omega arith)))
