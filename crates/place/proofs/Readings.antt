-- Readings that fail within the common beginning of two lines leave the same mark in both, and so does the better of two.
use mathlib.Core.Path.{◌≡◌, refl, ap, sym, ◌∙◌, subst}
use mathlib.Core.Bool.{Bool, true, false, cond, false≢true}
use mathlib.Core.List.{List, ◌++◌}
use Prim.Native.Nat.{ℕ, ◌<◌, ◌≤◌}
use native.Mathlib.Omega.{arith}
use borrow.Author.Tests.{ltb-true, ltb-false}
use lib.Dec.{ltb}
use lib.ListN.{length}
use Rattle.piece.specs.declared.mark.Mark.{Mark}
use Rattle.piece.proofs.Local.{In, Local}
use Rattle.forms.specs.Form.{better_of}
use Rattle.forms.specs.declared.form.Reading.{Reading}

-- two readings of one form, begun at a mark
pub record Keeps (n : ℕ) (m : Mark) (r r' : Reading) : Type 0 where
  pub begun : r.mark.fits ≡ false → r.mark.reached < n → In n m
  pub told : r.mark.fits ≡ false → r.mark.reached < n → r'.mark ≡ r.mark

-- a mark that does not fit has been seen as far as it reached
pub missed : (n : ℕ) (m : Mark) → m.fits ≡ false → m.reached < n → In n m
missed n m e h = record { there = λ f. absurd (false≢true (sym e ∙ f)); seen = h }

pub keeps : {c t t' : List ℕ} {f : List ℕ → Mark → Mark} → Local c t t' f → (m : Mark) (r r' : Reading)
    → r.mark ≡ f (c ++ t) m → r'.mark ≡ f (c ++ t') m → Keeps (length c) m r r'
keeps {c} p m r r' e e' = record {
  begun = λ fits seen. p.back m (subst (In (length c)) e (missed (length c) r.mark fits seen));
  told = λ fits seen. e' ∙ p.same m (subst (In (length c)) e (missed (length c) r.mark fits seen)) ∙ sym e;
}

better_mark : Mark → Mark → Mark
better_mark x y = cond x.fits x (cond y.fits y (cond (ltb x.reached y.reached) y x))

marked : (a b : Reading) → (better_of a b).mark ≡ better_mark a.mark b.mark
unfolding better_of better_mark
marked a b = go a.mark.fits b.mark.fits (ltb a.mark.reached b.mark.reached)
  where
    go : (p q r : Bool) → (cond p a (cond q b (cond r b a))).mark ≡ cond p a.mark (cond q b.mark (cond r b.mark a.mark))
    go true q r = refl
    go false true r = refl
    go false false true = refl
    go false false false = refl

record Both (n : ℕ) (x y : Mark) : Type 0 where
  left : x.fits ≡ false
  right : y.fits ≡ false
  first : x.reached < n
  second : y.reached < n

both : (n : ℕ) (x y : Mark) → (better_mark x y).fits ≡ false → (better_mark x y).reached < n → Both n x y
unfolding better_mark
both n x y f h = go x.fits refl y.fits refl (ltb x.reached y.reached) refl f h
  where
    go : (p : Bool) → x.fits ≡ p → (q : Bool) → y.fits ≡ q → (r : Bool) → ltb x.reached y.reached ≡ r
        → (cond p x (cond q y (cond r y x))).fits ≡ false → (cond p x (cond q y (cond r y x))).reached < n → Both n x y
    go true e q d r o f h = absurd (false≢true (sym f ∙ e))
    go false e true d r o f h = absurd (false≢true (sym f ∙ d))
    go false e false d true o f h = let l : x.reached < y.reached = ltb-true _ _ o in record { left = e; right = d; first = omega arith; second = h }
    go false e false d false o f h = let l : y.reached ≤ x.reached = ltb-false _ _ o in record { left = e; right = d; first = h; second = omega arith }

pub better_keeps : (n : ℕ) (m : Mark) (a a' b b' : Reading) → Keeps n m a a' → Keeps n m b b' → Keeps n m (better_of a b) (better_of a' b')
better_keeps n m a a' b b' p q = record { begun = begun; told = told }
  where
    parts : (better_of a b).mark.fits ≡ false → (better_of a b).mark.reached < n → Both n a.mark b.mark
    parts f h = both n a.mark b.mark (ap (λ m. m.fits) (sym (marked a b)) ∙ f) (subst (λ m. m.reached < n) (marked a b) h)

    begun : (better_of a b).mark.fits ≡ false → (better_of a b).mark.reached < n → In n m
    begun f h = p.begun (parts f h).left (parts f h).first

    told : (better_of a b).mark.fits ≡ false → (better_of a b).mark.reached < n → (better_of a' b').mark ≡ (better_of a b).mark
    told f h =
        marked a' b'
        ∙ ap (λ m. better_mark m b'.mark) (p.told (parts f h).left (parts f h).first)
        ∙ ap (better_mark a.mark) (q.told (parts f h).right (parts f h).second)
        ∙ sym (marked a b)
