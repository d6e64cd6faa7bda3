-- The last arm of a `match` on a code: where the code is none of the arms' keys, and the table has the plain entry at every other code of
-- the range, its entry is the plain one. The table is looked at once, by an equation of two lists that antt computes.
use mathlib.Core.Path.{◌≡◌, refl, sym, subst}
use mathlib.Core.Bool.{Bool, true, false}
use mathlib.Core.List.{List, [], ◌∷◌, map}
use Prim.Native.Nat.{ℕ, zero, suc, ◌+◌, ◌≤◌, ◌<◌}
use native.Mathlib.Omega.{arith}
use native.Mathlib.Decide.{ℕ_discrete}
use borrow.Author.Tests.{ne_eqb}
use lib.Dec.{eqb}
use lib.ListN.{get_or}

-- x is none of the keys: what `.rest` says in the last arm, with the keys from the last to the first
abbrev pub Apart : List ℕ → ℕ → Type 0
Apart [] x = Unit {0}
Apart (k ∷ ks) x = Apart ks x × (x ≡ k → ⊥)

abbrev or_else : Bool → Bool → Bool
or_else true b = true
or_else false b = b

abbrev is_key : List ℕ → ℕ → Bool
is_key [] x = false
is_key (k ∷ ks) x = or_else (eqb x k) (is_key ks x)

no_key : (keys : List ℕ) (x : ℕ) → Apart keys x → is_key keys x ≡ false
no_key [] x a = refl
no_key (k ∷ ks) x a = rw (ne_eqb x k a.1, no_key ks x a.0)

abbrev unless : Bool → ℕ → List ℕ → List ℕ
unless true k ks = ks
unless false k ks = k ∷ ks

-- the codes from `from` on, `count` of them, that are no keys
abbrev pub others : List ℕ → ℕ → ℕ → List ℕ
others keys zero from = []
others keys (suc count) from = unless (is_key keys from) from (others keys count (suc from))

module _ {A : Type 0} (table : List A) (past plain : A) (keys : List ℕ) where
  -- the entry of a code; `past` is what stands for a code past the table
  abbrev entry : ℕ → A
  entry k = get_or table k past

  abbrev pub Plain : List ℕ → Type 0
  Plain codes = map entry codes ≡ map (λ k. plain) codes

  later : (b : Bool) (k : ℕ) (ks : List ℕ) → Plain (unless b k ks) → Plain ks
  later true k ks e = e
  later false k ks e = cc

  here : (b : Bool) (k : ℕ) (ks : List ℕ) → b ≡ false → Plain (unless b k ks) → entry k ≡ plain
  here true k ks f e = cc
  here false k ks f e = cc

  pub rest : (count from : ℕ) → Plain (others keys count from) → (x : ℕ) → from ≤ x → x < from + count → Apart keys x → entry x ≡ plain
  rest zero from e x low high a = absurd (omega arith)
  rest (suc count) from e x low high a =
      by (λ n. rest count (suc from) (later (is_key keys from) from more e) x (omega arith) (omega arith) a) (ℕ_discrete x from)
    where
      more : List ℕ
      more = others keys count (suc from)

      by : ((x ≡ from → ⊥) → entry x ≡ plain) → Dec (x ≡ from) → entry x ≡ plain
      by above (yes q) = here (is_key keys x) x more (no_key keys x a) (subst (λ (k : ℕ). Plain (unless (is_key keys k) k more)) (sym q) e)
      by above (no n) = above n
