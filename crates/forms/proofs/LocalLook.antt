-- The forms of `x` and `xp` read a line only as far as they go: what may be left out behind the slash is one byte, or a number that fails where it is tried.
use mathlib.Core.Path.{◌≡◌, refl, ap, sym, ◌∙◌}
use mathlib.Core.Bool.{Bool, true, false, cond}
use mathlib.Core.List.{List, [], ◌∷◌, ◌++◌}
use Prim.Native.Nat.{ℕ, ◌<◌, ◌≤◌}
use native.Mathlib.Nat.{le_refl}
use native.Mathlib.Omega.{arith}
use lib.ListN.{length}
use Rattle.text.specs.Number.{decimal_at, number_of}
use Rattle.text.specs.declared.found.Number.{Number}
use Rattle.text.specs.declared.found.NoNumber.{NoNumber}
use Rattle.text.specs.declared.found.NoNumber.TheVariants.{TooLarge, Nothing}
use Rattle.std.specs.Prelude.{Result, Ok, Err}
use Rattle.text.proofs.Beginnings.{Within, decimal_same, place_in, decimal_later}
use Rattle.text.proofs.Decimals.{decimal_nothing, decimal_large}
use Rattle.piece.specs.Mark.{word_of}
use Rattle.piece.specs.declared.mark.Mark.{Mark}
use Rattle.piece.specs.declared.mark.Found.{Found}
use Rattle.piece.proofs.Local.{Local, Outcome, goes, fails, place_of, applied, step_of, then_local, local_by, step_local}
use Rattle.piece.proofs.LocalPieces.{gap_local, end_local, word_local, number_local}
use Rattle.piece.proofs.LocalByte.{stay_local, tried_local}
use Rattle.forms.specs.Words as words
use Rattle.forms.specs.Look.{times_of, format_of, unit_of, behind_of, shape_of, looking_of}
use Rattle.forms.specs.declared.kinds.Format.TheVariants.{Hex}
use Rattle.forms.specs.declared.kinds.Unit.TheVariants.{Word}
use Rattle.forms.specs.declared.kinds.Format.{Format}
use Rattle.forms.specs.declared.kinds.Unit.{Unit as Size}

-- ---- the definitions, by what they leave of the mark: a letter, or none
letter_or : ℕ → (List ℕ → Mark → Mark) → List ℕ → Mark → Mark
letter_or b other l m = cond (word_of l m (b ∷ [])).fits (word_of l m (b ∷ [])) (other l m)

none : List ℕ → Mark → Mark
none l m = m

module _ (l : List ℕ) (m : Mark) where
  lettered : {A : Type 0} (mark_of : A → Mark) (b : ℕ) (other : List ℕ → Mark → Mark) (x y : A) → mark_of x ≡ word_of l m (b ∷ []) → mark_of y ≡ other l m
      → mark_of (cond (word_of l m (b ∷ [])).fits x y) ≡ letter_or b other l m
  unfolding letter_or
  lettered mark_of b other x y e d = go (word_of l m (b ∷ [])).fits
    where
      go : (z : Bool) → mark_of (cond z x y) ≡ cond z (word_of l m (b ∷ [])) (other l m)
      go true = e
      go false = d

  format_is : (format_of l m).mark ≡ letter_or 120 (letter_or 100 (letter_or 117 (letter_or 99 none))) l m
  unfolding format_of none
  format_is = lettered mark_in 120 _ _ _ refl (lettered mark_in 100 _ _ _ refl (lettered mark_in 117 _ _ _ refl (lettered mark_in 99 _ _ _ refl refl)))
    where
      mark_in : Found Format → Mark
      mark_in x = x.mark

  unit_is : (unit_of l m).mark ≡ letter_or 98 (letter_or 104 (letter_or 119 none)) l m
  unfolding unit_of none
  unit_is = lettered mark_in 98 _ _ _ refl (lettered mark_in 104 _ _ _ refl (lettered mark_in 119 _ _ _ refl refl))
    where
      mark_in : Found Size → Mark
      mark_in x = x.mark

-- ---- a count, or none
ran_of : ℕ → Result Number NoNumber → Outcome
ran_of at (Ok n) = goes n.to
ran_of at (Err (TooLarge place)) = fails place
ran_of at (Err (Nothing place)) = goes at

ran : (m : Mark) → m.fits ≡ true → (n : Result Number NoNumber) → (times_of m n).mark ≡ applied (ran_of m.at n) m
unfolding ran_of
ran m e (Ok n) = refl
ran m e (Err (TooLarge place)) = refl
ran m e (Err (Nothing place)) = ap (λ b. record { at = m.at; fits = b; reached = m.reached }) e

times_in : List ℕ → Mark → Mark
times_in l m = step_of (ran_of m.at (decimal_at l m.at)) m

times_is : (l : List ℕ) (m : Mark) → m.fits ≡ true → (times_of m (decimal_at l m.at)).mark ≡ times_in l m
unfolding times_in
times_is l m e = ran m e (decimal_at l m.at) ∙ sym (ap (λ b. cond b (applied (ran_of m.at (decimal_at l m.at)) m) m) e)

-- ---- the slash and what stands behind it, or none
behind_in : List ℕ → Mark → Mark
behind_in l m = (unit_of l (format_of l (times_in l m)).mark).mark

shape_is : (l : List ℕ) (m : Mark) → (shape_of l m).mark ≡ cond (word_of l m words.slash).fits (behind_in l (word_of l m words.slash)) m
unfolding shape_of behind_in
shape_is l m = go (word_of l m words.slash) (word_of l m words.slash).fits refl
  where
    go : (w : Mark) (b : Bool) → w.fits ≡ b → (cond b (behind_of l w) (record { count = 1; format = Hex; unit = Word; mark = m })).mark ≡ cond b (unit_of l (format_of l (times_in l w)).mark).mark m
    go w true e = ap (λ x. (unit_of l (format_of l x).mark).mark) (times_is l w e)
    go w false e = refl

-- ---- and each is local
module _ (c t t' : List ℕ) where
  letter : {g : List ℕ → Mark → Mark} (b : ℕ) → Local c t t' g → Local c t t' (letter_or b g)
  unfolding letter_or
  letter b q = tried_local c t t' b (stay_local c t t') q

  alone : Local c t t' none
  unfolding none
  alone = stay_local c t t'

  format_local : Local c t t' (λ l m. (format_of l m).mark)
  format_local = local_by _ _ format_is (letter 120 (letter 100 (letter 117 (letter 99 alone))))

  unit_local : Local c t t' (λ l m. (unit_of l m).mark)
  unit_local = local_by _ _ unit_is (letter 98 (letter 104 (letter 119 alone)))

  -- no number that begins within the common beginning is too large
  module _ (small : (at place : ℕ) → number_of (c ++ t) at ≡ Err (TooLarge place) → place < length c → ⊥) where
    times_later : (at : ℕ) → at ≤ place_of (ran_of at (decimal_at (c ++ t) at))
    unfolding ran_of
    times_later at = go (decimal_at (c ++ t) at) (decimal_later (c ++ t) at)
      where
        go : (n : Result Number NoNumber) → at ≤ place_in n → at ≤ place_of (ran_of at n)
        go (Ok n) h = h
        go (Err (TooLarge place)) h = h
        go (Err (Nothing place)) h = le_refl at

    times_told : (at : ℕ) → place_of (ran_of at (decimal_at (c ++ t) at)) < length c → ran_of at (decimal_at (c ++ t') at) ≡ ran_of at (decimal_at (c ++ t) at)
    unfolding ran_of
    times_told at h = ap (ran_of at) (decimal_same c t t' at (within (decimal_at (c ++ t) at) refl h))
      where
        within : (n : Result Number NoNumber) → decimal_at (c ++ t) at ≡ n → place_of (ran_of at n) < length c → Within (length c) n
        within (Ok n) e h = h
        within (Err (TooLarge place)) e h = small at place (decimal_large (c ++ t) at place e) h
        within (Err (Nothing place)) e h = let there : place ≡ at = decimal_nothing (c ++ t) at place e in omega arith

    times_local : Local c t t' times_in
    unfolding times_in
    times_local = step_local c t t' (λ l at. ran_of at (decimal_at l at)) times_later times_told

    behind_local : Local c t t' behind_in
    unfolding behind_in
    behind_local = then_local (then_local times_local format_local) unit_local

    shape_local : Local c t t' (λ l m. (shape_of l m).mark)
    shape_local = local_by _ _ shape_is (tried_local c t t' 47 behind_local (stay_local c t t'))

    pub looking_local : (w : List ℕ) (physical : Bool) → Local c t t' (λ l m. (looking_of l m w physical).mark)
    unfolding looking_of
    looking_local w physical = then_local (then_local (then_local (then_local (word_local c t t' w) shape_local) (gap_local c t t')) (number_local c t t' small)) (end_local c t t')
