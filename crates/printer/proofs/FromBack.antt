-- A list that is gone over from its back: what is left are its first elements.
use Prim.Native.Nat.{ℕ, ◌+◌, ◌<◌}
use mathlib.Core.Path.{◌≡◌, refl, sym, ap, ◌∙◌}
use mathlib.Core.List.{List, ◌++◌, ◌∷◌, []}
use native.Mathlib.Omega.{arith}
use lib.ListN.{length, get_or, length-append}
use Rattle.std.proofs.lemmas.List.{get_or_push, get_or_append_left}

pub record Fronts {A : Type 0} (d : A) (rest xs : List A) : Type 0 where
  pub same : (k : ℕ) → k < length rest → get_or rest k d ≡ get_or xs k d

module _ {A : Type 0} (d x : A) (more rest xs : List A) (e : more ≡ rest ++ x ∷ []) (f : Fronts d more xs) where
  pub one_less : length more ≡ length rest + 1
  one_less = simp length-append at (ap (length {A = A}) e)

  pub taken : x ≡ get_or xs (length rest) d
  taken = sym (get_or_push rest x d (length rest) refl) ∙ rw e at (f.same (length rest) (omega (arith, one_less)))

  pub fronts_on : Fronts d rest xs
  fronts_on = record {
    same = λ k h. sym (get_or_append_left rest (x ∷ []) d k h) ∙ rw e at (f.same k (omega (arith, one_less)));
  }
