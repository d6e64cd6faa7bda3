-- Two lines with a common beginning: a word and a byte that stand within it stand in both.
use mathlib.Core.Path.{◌≡◌, refl, ap, sym, ◌∙◌}
use mathlib.Core.Bool.{Bool, true, false, cond}
use mathlib.Core.List.{List, [], ◌∷◌, ◌++◌}
use Prim.Native.Nat.{ℕ, suc, ◌+◌, ◌<◌}
use native.Mathlib.Omega.{arith}
use borrow.Author.Tests.{lt-ltb}
use lib.Dec.{eqb}
use lib.ListN.{length, get_or, drop, length-append, get_or-append}
use Rattle.text.proofs.Common.{at_same}
use Rattle.piece.specs.Mark.{stands_of, agreed_of}

agreed_same : (w d t t' : List ℕ) → agreed_of w (d ++ t) < length d → agreed_of w (d ++ t') ≡ agreed_of w (d ++ t)
unfolding agreed_of
agreed_same [] d t t' h = refl
agreed_same (b ∷ w) [] t t' h = absurd (omega arith)
agreed_same (b ∷ w) (a ∷ d) t t' h = go (eqb a b) h (agreed_same w d t t')
  where
    go : (x : Bool) → cond x (suc (agreed_of w (d ++ t))) 0 < suc (length d) → (agreed_of w (d ++ t) < length d → agreed_of w (d ++ t') ≡ agreed_of w (d ++ t))
        → cond x (suc (agreed_of w (d ++ t'))) 0 ≡ cond x (suc (agreed_of w (d ++ t))) 0
    go true h ih = ap suc (ih (omega arith))
    go false h ih = refl

pub word_same : (c t t' w : List ℕ) (at : ℕ) → at + agreed_of w (drop at (c ++ t)) < length c → agreed_of w (drop at (c ++ t')) ≡ agreed_of w (drop at (c ++ t))
word_same c t t' w at h = at_same c t t' (agreed_of w) (λ d. agreed_same w d t t') at h

stands_in : (c t : List ℕ) (at b : ℕ) → at < length c → stands_of (c ++ t) at b ≡ eqb (get_or c at 0) b
unfolding stands_of
stands_in c t at b h =
    let l : at < length (c ++ t) = omega (arith, length-append c t) in
    rw (lt-ltb at (length (c ++ t)) l, get_or-append c t 0 at h)

pub stands_same : (c t t' : List ℕ) (at b : ℕ) → at < length c → stands_of (c ++ t') at b ≡ stands_of (c ++ t) at b
stands_same c t t' at b h = stands_in c t' at b h ∙ sym (stands_in c t at b h)
