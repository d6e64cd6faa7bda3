-- Tests: what holds of the two sides of one, and of the two parts of a conjunction.
use mathlib.Core.Path.{◌≡◌, refl}
use mathlib.Core.Bool.{Bool, true, false, cond, ◌&&◌, false≢true}

pub both : (p q : Bool) → (p && q) ≡ true → (p ≡ true) × (q ≡ true)
both true q h = (refl, h)
both false q h = absurd (false≢true h)

-- what holds on both sides of a test holds of what it picks
pub picked : {A : Type 0} (P : A → Type 0) (t : Bool) (x y : A) → (t ≡ true → P x) → (t ≡ false → P y) → P (cond t x y)
picked P true x y f g = f refl
picked P false x y f g = g refl

-- a conjunction of two tests, each as told
pub and_same : {a b x y : Bool} → a ≡ x → b ≡ y → (a && b) ≡ (x && y)
and_same p q = rw (p, q)

pub and_true : {a b : Bool} → a ≡ true → b ≡ true → (a && b) ≡ true
and_true p q = rw (p, q)
