-- What `all` answers over a list, as a test of each number below the list's length.
use Prim.Native.Nat.{ℕ, ◌+◌, ◌<◌}
use mathlib.Core.Path.{◌≡◌, refl, sym, ap, ◌∙◌}
use mathlib.Core.Bool.{Bool, true, false}
use mathlib.Core.List.{List}
use native.Mathlib.Omega.{arith}
use lib.ListN.{length, get_or}
use Rattle.std.specs.Bool.{MatchBool}
use Rattle.std.specs.List.{AllWithin, HoldsAt, enumerate_from}
use Rattle.std.proofs.lemmas.List.FromFn.{length-enumerate_from, get_or-enumerate_from}
use Rattle.word.specs.Lists.{every}
use Rattle.device.proofs.Each.{all_hold, each_holds}

fails : (n : ℕ) (f : ℕ → Bool) (k : ℕ) → k < n → f k ≡ false → every n f ≡ false
fails n f k l off = go (every n f) refl
  where
    go : (on : Bool) → every n f ≡ on → on ≡ false
    go true e = sym (each_holds n f e k l) ∙ off
    go false e = refl

-- what `cases_from_all` says of the answer
abbrev pub Answers : {X : Type 0} → (X → Bool) → List X → Bool → Type 0
Answers t xs r = MatchBool r (AllWithin (λ x. t x ≡ true) xs 0 (length xs)) ((k : ℕ) × (k < length xs) × HoldsAt (λ x. t x ≡ false) xs k)

pub every_told : {X : Type 0} (t : X → Bool) (f : ℕ → Bool) (xs : List X) (d : X) (n : ℕ) → length xs ≡ n → ((k : ℕ) → k < n → t (get_or xs k d) ≡ f k) →
    (r : Bool) → Answers t xs r → r ≡ every n f
every_told t f xs d n e same true h = sym (all_hold n f (λ k l. sym (same k l) ∙ h k d (omega arith) (omega arith)))
every_told t f xs d n e same false (k, l, h) =
    let inside : k < n = omega arith in
    sym (fails n f k inside (sym (same k inside) ∙ h d))

-- the same of the elements with their places
pub every_numbered : {X : Type 0} (t : ℕ × X → Bool) (f : ℕ → Bool) (xs : List X) (d : X) (n : ℕ) → length xs ≡ n →
    ((k : ℕ) → k < n → t (k, get_or xs k d) ≡ f k) → (r : Bool) → Answers t (enumerate_from 0 xs) r → r ≡ every n f
every_numbered {X} t f xs d n e same r h =
    every_told t f (enumerate_from 0 xs) (0, d) n (length-enumerate_from 0 xs ∙ e)
    (λ k l.
    let inside : k < length xs = rw e l in
    let z : 0 + k ≡ k = omega arith in
    ap t (get_or-enumerate_from 0 xs k (0, d) inside) ∙ rw z (same k l)) r h
