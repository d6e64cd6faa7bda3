-- Tests in the order of their numbers: which number the first that fails gives.
use Prim.Native.Nat.{ℕ, zero, suc, ◌≤◌, ◌<◌}
use mathlib.Core.Path.{◌≡◌, refl, sym, ap, ◌∙◌}
use mathlib.Core.Logic.{◌↔◌}
use mathlib.Core.Bool.{Bool, true, false, cond, not, ◌&&◌}
use mathlib.Core.List.{List, [], ◌∷◌}
use native.Mathlib.Omega.{arith}
use borrow.Author.Tests.{eqb-false, not-true}
use lib.Dec.{eqb}
use lib.ListN.{length}
use Rattle.word.proofs.Cond.{both}

pub record Row : Type 0 where
  pub number : ℕ
  pub fits : Bool

abbrev pub row : ℕ → Bool → Row
row number fits = record { number = number; fits = fits }

-- the number of the first that fails, 0 if none does
abbrev pub number_in : List Row → ℕ
number_in [] = 0
number_in (r ∷ rs) = cond r.fits (number_in rs) r.number

-- the number of the row at a place, 0 past the last
abbrev pub number_at : ℕ → List Row → ℕ
number_at k [] = 0
number_at zero (r ∷ rs) = r.number
number_at (suc k) (r ∷ rs) = number_at k rs

-- the row at a place is the first that fails; past the last: none fails
abbrev pub First : ℕ → List Row → Type 0
First k [] = Unit
First zero (r ∷ rs) = r.fits ≡ false
First (suc k) (r ∷ rs) = (r.fits ≡ true) × First k rs

-- the numbers rise, from above `low`
abbrev pub Rising : ℕ → List Row → Type 0
Rising low [] = Unit
Rising low (r ∷ rs) = (low < r.number) × Rising r.number rs

-- no number up to `low` but 0
in_above : (rs : List Row) (low : ℕ) → Rising low rs → (x : ℕ) → number_in rs ≡ x → 0 < x → x ≤ low → ⊥
in_above [] low up x e some l = absurd (omega (arith, e))
in_above (r ∷ rs) low up x e some l = go r.fits (in_above rs r.number up.1 x) e
  where
    go : (b : Bool) → (number_in rs ≡ x → 0 < x → x ≤ r.number → ⊥) → cond b (number_in rs) r.number ≡ x → ⊥
    go true ih e = ih e some (omega (arith, up.0))
    go false ih e = absurd (omega (arith, up.0, e))

at_above : (rs : List Row) (low : ℕ) → Rising low rs → (k x : ℕ) → x ≡ number_at k rs → 0 < x → x ≤ low → ⊥
at_above [] low up k x e some l = absurd (omega (arith, e))
at_above (r ∷ rs) low up zero x e some l = absurd (omega (arith, up.0, e))
at_above (r ∷ rs) low up (suc k) x e some l = at_above rs r.number up.1 k x e some (omega (arith, up.0))

first_is : (rows : List Row) (low : ℕ) → Rising low rows → (k : ℕ) → number_in rows ≡ number_at k rows → First k rows
first_is [] low up k e = tt
first_is (r ∷ rs) low up zero e = go r.fits e
  where
    go : (b : Bool) → cond b (number_in rs) r.number ≡ r.number → b ≡ false
    go true e = absurd (in_above rs r.number up.1 r.number e (omega (arith, up.0)) (omega arith))
    go false e = refl
first_is (r ∷ rs) low up (suc k) e = go r.fits (first_is rs r.number up.1 k) e
  where
    go : (b : Bool) → (number_in rs ≡ number_at k rs → First k rs) → cond b (number_in rs) r.number ≡ number_at k rs → (b ≡ true) × First k rs
    go true ih e = (refl, ih e)
    go false ih e = absurd (at_above rs r.number up.1 k r.number e (omega (arith, up.0)) (omega arith))

is_first : (rows : List Row) (k : ℕ) → First k rows → number_in rows ≡ number_at k rows
is_first [] k h = refl
is_first (r ∷ rs) zero h = ap (λ (b : Bool). cond b (number_in rs) r.number) h
is_first (r ∷ rs) (suc k) h = ap (λ (b : Bool). cond b (number_in rs) r.number) h.0 ∙ is_first rs k h.1

-- a number is given exactly where its row is the first that fails
pub number_exact : (rows : List Row) → Rising 0 rows → (n : ℕ) → n ≡ number_in rows → (k : ℕ) → (n ≡ number_at k rows) ↔ First k rows
number_exact rows up n is k = (λ e. first_is rows 0 up k (sym is ∙ e), λ h. is ∙ is_first rows k h)

-- no row fails
abbrev pub NoneFails : List Row → Type 0
NoneFails [] = Unit
NoneFails (r ∷ []) = r.fits ≡ true
NoneFails (r ∷ s ∷ rs) = (r.fits ≡ true) × NoneFails (s ∷ rs)

none_is : (rows : List Row) → First (length rows) rows → NoneFails rows
none_is [] h = tt
none_is (r ∷ []) h = h.0
none_is (r ∷ s ∷ rs) h = (h.0, none_is (s ∷ rs) h.1)

is_none : (rows : List Row) → NoneFails rows → First (length rows) rows
is_none [] h = tt
is_none (r ∷ []) h = (h, tt)
is_none (r ∷ s ∷ rs) h = (h.0, is_none (s ∷ rs) h.1)

past_last : (rows : List Row) → number_at (length rows) rows ≡ 0
past_last [] = refl
past_last (r ∷ rs) = past_last rs

-- and 0 exactly where none does
pub zero_exact : (rows : List Row) → Rising 0 rows → (n : ℕ) → n ≡ number_in rows → (n ≡ 0) ↔ NoneFails rows
zero_exact rows up n is =
    let past = number_exact rows up n is (length rows) in
    (λ e. none_is rows (past.0 (e ∙ sym (past_last rows))), λ h. past.1 (is_none rows h) ∙ past_last rows)

-- there is no number but 0 and the rows'
abbrev pub other : ℕ → List Row → Bool
other x [] = not (eqb x 0)
other x (r ∷ rs) = not (eqb r.number x) && other x rs

pub number_other : (rows : List Row) (x : ℕ) → other x rows ≡ true → number_in rows ≡ x → ⊥
number_other [] x apart e = eqb-false x 0 (not-true (eqb x 0) apart) (sym e)
number_other (r ∷ rs) x apart e =
    let h = both (not (eqb r.number x)) (other x rs) apart in
    go r.fits (eqb-false r.number x (not-true (eqb r.number x) h.0)) (number_other rs x h.1) e
  where
    go : (b : Bool) → (r.number ≡ x → ⊥) → (number_in rs ≡ x → ⊥) → cond b (number_in rs) r.number ≡ x → ⊥
    go true apart ih e = ih e
    go false apart ih e = apart e

abbrev pub UpTo : ℕ → List Row → Type 0
UpTo top [] = Unit
UpTo top (r ∷ rs) = (r.number ≤ top) × UpTo top rs

pub number_most : (rows : List Row) (top : ℕ) → UpTo top rows → number_in rows ≤ top
number_most [] top up = omega arith
number_most (r ∷ rs) top up = go r.fits (number_most rs top up.1)
  where
    go : (b : Bool) → number_in rs ≤ top → cond b (number_in rs) r.number ≤ top
    go true ih = ih
    go false ih = up.0
