-- What the updates do at one frame.
use Rattle.std.proofs.Common.{◌≡◌, ℕ, Bool, true, false, cond, ◌&&◌, ◌||◌, eqb, List, [], ◌∷◌, map, sym, refl, ap, ◌∙◌, arith, eq-eqb, ne_eqb}
use mathlib.Core.Bool.{and-false}
use native.Mathlib.Decide.{ℕ_discrete}
use Rattle.frames.specs.OnHand.{Touch, changes}
use Rattle.frames.specs.Afresh.{Index}
use Rattle.frames.specs.Keep.{Kept, with, is_at, replace, replace_all, mark, mark_all}
use Rattle.std.proofs.Common.{Option, Some}

-- of every place that a record keeps
abbrev pub Each : (Kept → Type 0) → List Kept → Type 0
Each P [] = Unit
Each P (k ∷ ks) = P k × Each P ks

abbrev pub touched : List Kept → List Touch
touched ks = map (λ (k : Kept). k.touch) ks

module _ (ix : Index) (f : ℕ) (e : Option ℕ) where
  pub with_same : with ix f e f ≡ e
  with_same = ap (λ (b : Bool). cond b e (ix f)) (eq-eqb f f refl)

  pub with_other : (g : ℕ) → (f ≡ g → ⊥) → with ix f e g ≡ ix g
  with_other g other = ap (λ (b : Bool). cond b e (ix g)) (ne_eqb f g other)

module _ (clock : ℕ) (ix : Index) (f : ℕ) (e : Option ℕ) where
  pub replace_same : is_at clock (ix f) ≡ true → replace clock f e ix f ≡ e
  replace_same h = ap (λ (b : Bool). cond b (with ix f e) ix f) h ∙ with_same ix f e

  pub replace_not : (g : ℕ) → is_at clock (ix f) ≡ false → replace clock f e ix g ≡ ix g
  replace_not g h = ap (λ (b : Bool). cond b (with ix f e) ix g) h

  pub replace_other : (g : ℕ) → (f ≡ g → ⊥) → replace clock f e ix g ≡ ix g
  replace_other g other = go (is_at clock (ix f))
    where
      go : (b : Bool) → cond b (with ix f e) ix g ≡ ix g
      go true = with_other ix f e g other
      go false = refl

  -- an entry that names another step stays
  pub replace_stays : (g : ℕ) → is_at clock (ix g) ≡ false → replace clock f e ix g ≡ ix g
  replace_stays g h =
      elim (ℕ_discrete f g) [
        | yes q ↦ replace_not g (ap (λ (x : ℕ). is_at clock (ix x)) q ∙ h)
        | no q ↦ replace_other g q
      ]

module _ (clock : ℕ) (e : Kept → Option ℕ) where
  pub all_stays : (ks : List Kept) (ix : Index) (g : ℕ) → is_at clock (ix g) ≡ false → replace_all clock e ks ix g ≡ ix g
  all_stays [] ix g h = refl
  all_stays (k ∷ ks) ix g h =
      let here = replace_stays clock ix k.touch.frame (e k) g h in
      all_stays ks (replace clock k.touch.frame (e k) ix) g (ap (is_at clock) here ∙ h) ∙ here

  -- an entry that names the step goes, if the step changed the frame
  pub all_goes : (ks : List Kept) (ix : Index) (g : ℕ) (x : Option ℕ) → is_at clock (ix g) ≡ true → changes (touched ks) g ≡ true →
      Each (λ k. k.touch.frame ≡ g → e k ≡ x) ks → is_at clock x ≡ false → replace_all clock e ks ix g ≡ x
  all_goes [] ix g x here c each gone = let z : ◌≡◌ {A = ℕ} 0 1 = cc in absurd (omega arith)
  all_goes (k ∷ ks) ix g x here c each gone =
      elim (ℕ_discrete k.touch.frame g) [
        | yes q ↦
            let same : replace clock k.touch.frame (e k) ix g ≡ x =
            ap (replace clock k.touch.frame (e k) ix) (sym q)
            ∙ replace_same clock ix k.touch.frame (e k) (ap (λ (n : ℕ). is_at clock (ix n)) q ∙ here)
            ∙ each.0 q in
            all_stays ks (replace clock k.touch.frame (e k) ix) g (ap (is_at clock) same ∙ gone) ∙ same
        | no q ↦
            let other = replace_other clock ix k.touch.frame (e k) g q in
            all_goes ks (replace clock k.touch.frame (e k) ix) g x (ap (is_at clock) other ∙ here)
            (rw (ne_eqb k.touch.frame g q, and-false k.touch.changed) at c) each.1 gone
      ]

module _ (clock : ℕ) where
  mark_at : (t : Touch) (ix : Index) (g : ℕ) → mark clock t ix g ≡ cond (t.changed && eqb t.frame g) (Some clock) (ix g)
  mark_at t ix g = go t.changed
    where
      go : (b : Bool) → cond b (with ix t.frame (Some clock)) ix g ≡ cond (b && eqb t.frame g) (Some clock) (ix g)
      go true = refl
      go false = refl

  pub mark_all_lem : (ts : List Touch) (ix : Index) (g : ℕ) → mark_all clock ts ix g ≡ cond (changes ts g) (Some clock) (ix g)
  mark_all_lem [] ix g = refl
  mark_all_lem (t ∷ ts) ix g =
      mark_all_lem ts (mark clock t ix) g
      ∙ ap (λ (x : Option ℕ). cond (changes ts g) (Some clock) x) (mark_at t ix g)
      ∙ go (changes ts g) (t.changed && eqb t.frame g)
    where
      go : (a b : Bool) → cond a (Some clock) (cond b (Some clock) (ix g)) ≡ cond (b || a) (Some clock) (ix g)
      go true true = refl
      go true false = refl
      go false true = refl
      go false false = refl
