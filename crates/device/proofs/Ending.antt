-- What a tick leaves of the pending map, known before it: the map is not 0 exactly if it was not 0, or a device finishes.
use Prim.Native.Nat.{ℕ, zero, suc, ◌^◌}
use mathlib.Core.Path.{◌≡◌, refl, sym, ap, ◌∙◌}
use mathlib.Core.Bool.{Bool, true, false, not, ◌||◌, false≢true}
use mathlib.Core.List.{List}
use native.Mathlib.Nat.{zero-div}
use native.Mathlib.Omega.{arith}
use borrow.Author.Tests.{eqb-true}
use lib.Dec.{eqb}
use lib.ListN.{get_or}
use Rattle.word.specs.Map.{bit, with_bit}
use Rattle.word.proofs.Maps.{bit_told}
use Rattle.device.specs.Line.{pending_on, some_of, ticked_to, pending_to}
use Rattle.device.proofs.Passed.{not_passed}

or_false : (a : Bool) → (a || false) ≡ a
or_false true = refl
or_false false = refl

or_true : (a : Bool) → (a || true) ≡ true
or_true true = refl
or_true false = refl

or_assoc : (a b c : Bool) → ((a || b) || c) ≡ (a || (b || c))
or_assoc true b c = refl
or_assoc false b c = refl

none_on : (n : ℕ) → bit n 0 ≡ false
none_on n = rw (zero-div (2 ^ n))

-- a map with a bit on is not 0
some_on : (n map : ℕ) → not (eqb (with_bit n true map) 0) ≡ true
some_on n map = go (eqb (with_bit n true map) 0) refl
  where
    go : (none : Bool) → eqb (with_bit n true map) 0 ≡ none → not none ≡ true
    go false e = refl
    go true e = absurd (false≢true (sym (none_on n) ∙ ap (bit n) (sym (eqb-true (with_bit n true map) 0 e)) ∙ bit_told n true map))

after_one : (n : ℕ) (done : Bool) (map : ℕ) → not (eqb (pending_on n done map) 0) ≡ (not (eqb map 0) || done)
after_one n true map = some_on n map ∙ sym (or_true (not (eqb map 0)))
after_one n false map = sym (or_false (not (eqb map 0)))

module _ {D : Type 0} (none : D) (finishes : D → Bool) (ticked : D → D) (line : List D) (pending : ℕ) where
  abbrev was : Bool
  was = not (eqb pending 0)

  pub after_some : (n : ℕ) → not (eqb (pending_to none finishes ticked n line pending) 0) ≡ (was || some_of none finishes n line)
  unfolding pending_to some_of
  after_some zero = sym (or_false was)
  after_some (suc n) =
      after_one n (finishes (get_or (ticked_to none ticked n line) n none)) (pending_to none finishes ticked n line pending)
      ∙ rw (not_passed none ticked line n n (omega arith), after_some n)
      (or_assoc was (some_of none finishes n line) (finishes (get_or line n none)))
