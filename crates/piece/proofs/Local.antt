-- What reads a line only as far as it goes: in two lines with a common beginning it reads the same, if it ends within that.
use mathlib.Core.Path.{◌≡◌, refl, ap, sym, ◌∙◌, subst}
use mathlib.Core.Bool.{Bool, true, false, cond, false≢true}
use mathlib.Core.List.{List, ◌++◌}
use Prim.Native.Nat.{ℕ, ◌<◌, ◌≤◌}
use native.Mathlib.Omega.{arith}
use borrow.Author.Tests.{ltb-true, ltb-false}
use lib.Dec.{ltb}
use lib.ListN.{length}
use Rattle.piece.specs.Mark.{goes_on, fails_at}
use Rattle.piece.specs.declared.mark.Mark.{Mark}

-- a mark that has seen no byte from the place n on
pub record In (n : ℕ) (m : Mark) : Type 0 where
  pub there : m.fits ≡ true → m.at < n
  pub seen : m.reached < n

pub record Local (c t t' : List ℕ) (f : List ℕ → Mark → Mark) : Type 0 where
  pub back : (m : Mark) → In (length c) (f (c ++ t) m) → In (length c) m
  pub same : (m : Mark) → In (length c) (f (c ++ t) m) → f (c ++ t') m ≡ f (c ++ t) m

module _ {c t t' : List ℕ} where
  pub then_local : {f g : List ℕ → Mark → Mark} → Local c t t' f → Local c t t' g → Local c t t' (λ l m. g l (f l m))
  then_local {f} {g} p q = record {
    back = λ m i. p.back m (q.back (f (c ++ t) m) i);
    same = λ m i. ap (g (c ++ t')) (p.same m (q.back (f (c ++ t) m) i)) ∙ q.same (f (c ++ t) m) i;
  }

  pub local_by : (f g : List ℕ → Mark → Mark) → ((l : List ℕ) (m : Mark) → g l m ≡ f l m) → Local c t t' f → Local c t t' g
  local_by f g e p = record {
    back = λ m i. p.back m (subst (In (length c)) (e (c ++ t) m) i);
    same = λ m i. e (c ++ t') m ∙ p.same m (subst (In (length c)) (e (c ++ t) m) i) ∙ sym (e (c ++ t) m);
  }

-- ---- a piece: it goes on to a place, or fails at one
pub data Outcome : Type 0 where
  goes : ℕ → Outcome
  fails : ℕ → Outcome

abbrev pub place_of : Outcome → ℕ
place_of (goes x) = x
place_of (fails y) = y

abbrev pub applied : Outcome → Mark → Mark
applied (goes x) m = goes_on m x
applied (fails y) m = fails_at m y

abbrev pub step_of : Outcome → Mark → Mark
step_of o m = cond m.fits (applied o m) m

record Back (n : ℕ) (m : Mark) (o : Outcome) : Type 0 where
  mark : In n m
  place : m.fits ≡ true → place_of o < n

left_below : (a b n : ℕ) → cond (ltb a b) b a < n → a < n
left_below a b n = go (ltb a b) refl
  where
    go : (x : Bool) → ltb a b ≡ x → cond x b a < n → a < n
    go true e h = let l : a < b = ltb-true a b e in omega arith
    go false e h = h

right_below : (a b n : ℕ) → cond (ltb a b) b a < n → b < n
right_below a b n = go (ltb a b) refl
  where
    go : (x : Bool) → ltb a b ≡ x → cond x b a < n → b < n
    go true e h = h
    go false e h = let l : b ≤ a = ltb-false a b e in omega arith

step_back : (n : ℕ) (m : Mark) (o : Outcome) → m.at ≤ place_of o → In n (step_of o m) → Back n m o
step_back n m o l i = go m.fits refl o l i
  where
    go : (b : Bool) → m.fits ≡ b → (o : Outcome) → m.at ≤ place_of o → In n (cond b (applied o m) m) → Back n m o
    go false e o l i = record { mark = i; place = λ f. absurd (false≢true (sym e ∙ f)) }
    go true e (goes x) l i = let k : x < n = i.there refl in record { mark = record { there = λ f. omega arith; seen = i.seen }; place = λ f. k }
    go true e (fails y) l i =
        let k : y < n = right_below m.reached y n i.seen in
        record { mark = record { there = λ f. omega arith; seen = left_below m.reached y n i.seen }; place = λ f. k }

module _ (c t t' : List ℕ) where
  pub step_local : (o : List ℕ → ℕ → Outcome) → ((at : ℕ) → at ≤ place_of (o (c ++ t) at))
      → ((at : ℕ) → place_of (o (c ++ t) at) < length c → o (c ++ t') at ≡ o (c ++ t) at) → Local c t t' (λ l m. step_of (o l m.at) m)
  step_local o later told = record {
    back = λ m i. (step_back (length c) m (o (c ++ t) m.at) (later m.at) i).mark;
    same = λ m i. go m m.fits refl (step_back (length c) m (o (c ++ t) m.at) (later m.at) i).place;
  }
    where
      go : (m : Mark) (b : Bool) → m.fits ≡ b → (m.fits ≡ true → place_of (o (c ++ t) m.at) < length c)
          → cond b (applied (o (c ++ t') m.at) m) m ≡ cond b (applied (o (c ++ t) m.at) m) m
      go m true e k = ap (λ x. applied x m) (told m.at (k e))
      go m false e k = refl
