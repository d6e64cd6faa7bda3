-- What the index worked out afresh says of RAM: a step changed a frame exactly if a word of the frame differs before and after it.
use Prim.{tt}
use Prim.Native.Nat.{ℕ}
use mathlib.Core.Path.{◌≡◌, refl, sym, ap, ◌∙◌}
use mathlib.Core.Bool.{Bool, true, false, not, ◌&&◌, ◌||◌, or-true, false≢true}
use mathlib.Core.List.{List, [], ◌∷◌, map}
use mathlib.Core.Logic.{◌≢◌}
use native.Mathlib.Decide.{ℕ_discrete}
use borrow.Author.Tests.{eq-eqb, ne_eqb, eqb-true, eqb-false, not-true}
use lib.Dec.{eqb}
use Rattle.word.proofs.Cond.{both}
use Rattle.frames.specs.OnHand.{Touch, changes}
use Rattle.indexed.specs.Ahead.{Ahead, Noted, frame_of}
use Rattle.indexed.specs.Base.{noted_by}
use Rattle.indexed.specs.Index.{seen_of}

-- a place is none of those that a record says
abbrev pub Apart : ℕ → List Noted → Type 0
Apart p [] = Unit
Apart p (w ∷ ws) = (w.place ≢ p) × Apart p ws

-- u is the state before a step and s the one after it
module _ (a : Ahead) (u s : a.State) where
  abbrev seen : List Noted → List Touch
  seen ws = map (seen_of a s) ws

  -- every old word that the step's record says is the word before it
  abbrev pub Olds : List Noted → Type 0
  Olds [] = Unit
  Olds (w ∷ ws) = (w.old ≡ a.word u w.place) × Olds ws

  -- a word that differs lies in a frame that the step changed, if the step left every word whose place its record does not say
  pub differs_changes : (ws : List Noted) → Olds ws → (p : ℕ) → (Apart p ws → a.word u p ≡ a.word s p) → a.word u p ≢ a.word s p → changes (seen ws) (frame_of p) ≡ true
  differs_changes [] o p left d = absurd (d (left tt))
  differs_changes (w ∷ ws) o p left d =
      elim (ℕ_discrete w.place p) [
        | yes q ↦
            let other : w.old ≢ a.word s w.place = λ e. d (ap (a.word u) (sym q) ∙ sym o.0 ∙ e ∙ ap (a.word s) q) in
            ap (λ (t : Bool). (not t && eqb (frame_of w.place) (frame_of p)) || changes (seen ws) (frame_of p)) (ne_eqb w.old (a.word s w.place) other)
            ∙ ap (λ (t : Bool). t || changes (seen ws) (frame_of p)) (eq-eqb (frame_of w.place) (frame_of p) (ap frame_of q))
        | no q ↦
            ap (λ (t : Bool). ((seen_of a s w).changed && eqb (frame_of w.place) (frame_of p)) || t)
            (differs_changes ws o.1 p (λ apart. left (q, apart)) d)
            ∙ or-true ((seen_of a s w).changed && eqb (frame_of w.place) (frame_of p))
      ]

  -- and the other way round
  pub changes_differs : (ws : List Noted) → Olds ws → (f : ℕ) → changes (seen ws) f ≡ true → (p : ℕ) × (frame_of p ≡ f) × (a.word u p ≢ a.word s p)
  changes_differs [] o f c = absurd (false≢true c)
  changes_differs (w ∷ ws) o f c = go ((seen_of a s w).changed && eqb (frame_of w.place) f) refl c (changes_differs ws o.1 f)
    where
      go : (t : Bool) → ((seen_of a s w).changed && eqb (frame_of w.place) f) ≡ t → (t || changes (seen ws) f) ≡ true →
          (changes (seen ws) f ≡ true → (p : ℕ) × (frame_of p ≡ f) × (a.word u p ≢ a.word s p)) → (p : ℕ) × (frame_of p ≡ f) × (a.word u p ≢ a.word s p)
      go true e h more =
          let parts = both (seen_of a s w).changed (eqb (frame_of w.place) f) e in
          let other = eqb-false w.old (a.word s w.place) (not-true (eqb w.old (a.word s w.place)) parts.0) in
          (w.place, eqb-true (frame_of w.place) f parts.1, λ q. other (o.0 ∙ q))
      go false e h more = more h

  -- the record of a step says the words before it
  pub olds_noted : (ps ds : List ℕ) → Olds (noted_by a u ps ds)
  olds_noted [] ds = tt
  olds_noted (p ∷ ps) [] = tt
  olds_noted (p ∷ ps) (d ∷ ds) = (refl, olds_noted ps ds)
