-- Each piece reads a line only as far as it goes; a number, if it is not too large.
use mathlib.Core.Path.{◌≡◌, refl, ap, sym, ◌∙◌}
use mathlib.Core.Bool.{Bool, true, false, cond}
use mathlib.Core.List.{List, ◌++◌}
use Prim.Native.Nat.{ℕ, ◌+◌, ◌<◌, ◌≤◌}
use native.Mathlib.Nat.{le_refl, le-add_right}
use native.Mathlib.Omega.{arith}
use borrow.Author.Tests.{lt-leb, ltb-false}
use lib.Dec.{eqb, ltb, leb}
use lib.ListN.{length, drop, length-append}
use Rattle.text.specs.Number.{number_of}
use Rattle.std.specs.Prelude.{Result, Ok, Err}
use Rattle.text.specs.declared.found.Number.{Number}
use Rattle.text.specs.declared.found.NoNumber.{NoNumber}
use Rattle.text.specs.declared.found.NoNumber.TheVariants.{TooLarge, Nothing}
use Rattle.text.proofs.Common.{behind_same}
use Rattle.text.proofs.Beginnings.{Within, number_same, place_in, number_later}
use Rattle.piece.specs.Mark.{goes_on, fails_at, stands_of, is_space, is_name_byte, behind_spaces, behind_name, agreed_of, gap_of, end_of, word_of, count_of, number_in, name_of}
use Rattle.piece.specs.declared.mark.Mark.{Mark}
use Rattle.piece.proofs.Common.{word_same, stands_same}
use Rattle.piece.proofs.Local.{Local, Outcome, goes, fails, place_of, applied, step_of, local_by, step_local}

either : (m : Mark) (b : Bool) (x y : ℕ) → cond b (goes_on m x) (fails_at m y) ≡ applied (cond b (goes x) (fails y)) m
either m true x y = refl
either m false x y = refl

place_both : (b : Bool) (x : ℕ) → place_of (cond b (goes x) (fails x)) ≡ x
place_both true x = refl
place_both false x = refl

-- ---- what each piece does at a place
gap_at : List ℕ → ℕ → Outcome
gap_at l at = cond (stands_of l at 32) (goes (behind_spaces l at)) (fails at)

end_at : List ℕ → ℕ → Outcome
end_at l at = cond (leb (length l) (behind_spaces l at)) (goes (behind_spaces l at)) (fails (behind_spaces l at))

word_at : List ℕ → List ℕ → ℕ → Outcome
word_at w l at = cond (eqb (agreed_of w (drop at l)) (length w)) (goes (at + agreed_of w (drop at l))) (fails (at + agreed_of w (drop at l)))

name_at : List ℕ → ℕ → Outcome
name_at l at = cond (ltb at (behind_name l at)) (goes (behind_name l at)) (fails at)

outcome_of : Result Number NoNumber → Outcome
outcome_of (Ok n) = goes n.to
outcome_of (Err (TooLarge place)) = fails place
outcome_of (Err (Nothing place)) = fails place

-- ---- the definitions say so
gap_step : (l : List ℕ) (m : Mark) → gap_of l m ≡ step_of (gap_at l m.at) m
unfolding gap_of gap_at
gap_step l m = ap (λ x. cond m.fits x m) (either m (stands_of l m.at 32) (behind_spaces l m.at) m.at)

end_step : (l : List ℕ) (m : Mark) → end_of l m ≡ step_of (end_at l m.at) m
unfolding end_of end_at
end_step l m = ap (λ x. cond m.fits x m) (either m (leb (length l) (behind_spaces l m.at)) (behind_spaces l m.at) (behind_spaces l m.at))

word_step : (w l : List ℕ) (m : Mark) → word_of l m w ≡ step_of (word_at w l m.at) m
unfolding word_of word_at
word_step w l m =
    ap (λ x. cond m.fits x m)
    (either m (eqb (agreed_of w (drop m.at l)) (length w)) (m.at + agreed_of w (drop m.at l)) (m.at + agreed_of w (drop m.at l)))

name_step : (l : List ℕ) (m : Mark) → (name_of l m).mark ≡ step_of (name_at l m.at) m
unfolding name_at
name_step l m = ap (λ x. cond m.fits x m) (either m (ltb m.at (behind_name l m.at)) (behind_name l m.at) m.at)

counts : (m : Mark) (b : Bool) (n : Result Number NoNumber) → ◌≡◌ {A = Mark} (cond b (count_of m n) (record { value = 0; mark = m })).mark (cond b (applied (outcome_of n) m) m)
unfolding outcome_of
counts m true (Ok n) = refl
counts m true (Err (TooLarge place)) = refl
counts m true (Err (Nothing place)) = refl
counts m false n = refl

number_step : (l : List ℕ) (m : Mark) → (number_in l m).mark ≡ step_of (outcome_of (number_of l m.at)) m
unfolding number_in
number_step l m = counts m m.fits (number_of l m.at)

-- ---- and each is local
module _ (c t t' : List ℕ) where
  gap_later : (at : ℕ) → at ≤ place_of (gap_at (c ++ t) at)
  unfolding gap_at
  gap_later at = go (stands_of (c ++ t) at 32)
    where
      go : (s : Bool) → at ≤ place_of (cond s (goes (behind_spaces (c ++ t) at)) (fails at))
      go true = le-add_right at _
      go false = le_refl at

  gap_told : (at : ℕ) → place_of (gap_at (c ++ t) at) < length c → gap_at (c ++ t') at ≡ gap_at (c ++ t) at
  unfolding gap_at
  gap_told at h =
      let k : at ≤ place_of (gap_at (c ++ t) at) = gap_later at in
      let here : at < length c = omega arith in
      go (stands_of (c ++ t) at 32) refl (stands_same c t t' at 32 here) h
    where
      go : (s : Bool) → stands_of (c ++ t) at 32 ≡ s → stands_of (c ++ t') at 32 ≡ stands_of (c ++ t) at 32
          → place_of (cond s (goes (behind_spaces (c ++ t) at)) (fails at)) < length c
          → cond (stands_of (c ++ t') at 32) (goes (behind_spaces (c ++ t') at)) (fails at) ≡ cond s (goes (behind_spaces (c ++ t) at)) (fails at)
      go true e s h =
          ap (λ x. cond x (goes (behind_spaces (c ++ t') at)) (fails at)) (s ∙ e) ∙ ap (λ k. goes (at + k)) (behind_same c t t' is_space at h)
      go false e s h = ap (λ x. cond x (goes (behind_spaces (c ++ t') at)) (fails at)) (s ∙ e)

  pub gap_local : Local c t t' gap_of
  gap_local = local_by (λ l m. step_of (gap_at l m.at) m) gap_of gap_step (step_local c t t' gap_at gap_later gap_told)

  not_past : (u : List ℕ) (b : ℕ) → b < length c → leb (length (c ++ u)) b ≡ false
  not_past u b h = lt-leb (length (c ++ u)) b (omega (arith, length-append c u))

  end_later : (at : ℕ) → at ≤ place_of (end_at (c ++ t) at)
  unfolding end_at
  end_later at = rw (place_both (leb (length (c ++ t)) (behind_spaces (c ++ t) at)) (behind_spaces (c ++ t) at)) (le-add_right at _)

  end_told : (at : ℕ) → place_of (end_at (c ++ t) at) < length c → end_at (c ++ t') at ≡ end_at (c ++ t) at
  unfolding end_at
  end_told at h =
      let k : behind_spaces (c ++ t) at < length c = rw (← place_both (leb (length (c ++ t)) (behind_spaces (c ++ t) at)) (behind_spaces (c ++ t) at)) h in
      ap (λ n. cond (leb (length (c ++ t')) (at + n)) (goes (at + n)) (fails (at + n))) (behind_same c t t' is_space at k)
      ∙ ap (λ z. cond z (goes (behind_spaces (c ++ t) at)) (fails (behind_spaces (c ++ t) at))) (not_past t' _ k ∙ sym (not_past t _ k))

  pub end_local : Local c t t' end_of
  end_local = local_by (λ l m. step_of (end_at l m.at) m) end_of end_step (step_local c t t' end_at end_later end_told)

  module _ (w : List ℕ) where
    word_later : (at : ℕ) → at ≤ place_of (word_at w (c ++ t) at)
    unfolding word_at
    word_later at = rw (place_both (eqb (agreed_of w (drop at (c ++ t))) (length w)) (at + agreed_of w (drop at (c ++ t)))) (le-add_right at _)

    word_told : (at : ℕ) → place_of (word_at w (c ++ t) at) < length c → word_at w (c ++ t') at ≡ word_at w (c ++ t) at
    unfolding word_at
    word_told at h =
        let k : at + agreed_of w (drop at (c ++ t)) < length c = rw (← place_both (eqb (agreed_of w (drop at (c ++ t))) (length w)) (at + agreed_of w (drop at (c ++ t)))) h in
        ap (λ n. cond (eqb n (length w)) (goes (at + n)) (fails (at + n))) (word_same c t t' w at k)

    pub word_local : Local c t t' (λ l m. word_of l m w)
    word_local = local_by (λ l m. step_of (word_at w l m.at) m) (λ l m. word_of l m w) (word_step w) (step_local c t t' (word_at w) word_later word_told)

  name_later : (at : ℕ) → at ≤ place_of (name_at (c ++ t) at)
  unfolding name_at
  name_later at = go (ltb at (behind_name (c ++ t) at))
    where
      go : (s : Bool) → at ≤ place_of (cond s (goes (behind_name (c ++ t) at)) (fails at))
      go true = le-add_right at _
      go false = le_refl at

  name_told : (at : ℕ) → place_of (name_at (c ++ t) at) < length c → name_at (c ++ t') at ≡ name_at (c ++ t) at
  unfolding name_at
  name_told at h = ap (λ n. cond (ltb at (at + n)) (goes (at + n)) (fails at)) (behind_same c t t' is_name_byte at (go (ltb at (behind_name (c ++ t) at)) refl h))
    where
      go : (s : Bool) → ltb at (behind_name (c ++ t) at) ≡ s → place_of (cond s (goes (behind_name (c ++ t) at)) (fails at)) < length c → behind_name (c ++ t) at < length c
      go true e h = h
      go false e h = let l : behind_name (c ++ t) at ≤ at = ltb-false _ _ e in omega arith

  pub name_local : Local c t t' (λ l m. (name_of l m).mark)
  name_local = local_by (λ l m. step_of (name_at l m.at) m) (λ l m. (name_of l m).mark) name_step (step_local c t t' name_at name_later name_told)

  -- no number that begins within the common beginning is too large
  pub number_local : ((at place : ℕ) → number_of (c ++ t) at ≡ Err (TooLarge place) → place < length c → ⊥) → Local c t t' (λ l m. (number_in l m).mark)
  unfolding outcome_of
  number_local none =
      local_by (λ l m. step_of (outcome_of (number_of l m.at)) m) (λ l m. (number_in l m).mark) number_step
      (step_local c t t' (λ l at. outcome_of (number_of l at)) later told)
    where
      placed : (n : Result Number NoNumber) → place_of (outcome_of n) ≡ place_in n
      placed (Ok n) = refl
      placed (Err (TooLarge place)) = refl
      placed (Err (Nothing place)) = refl

      later : (at : ℕ) → at ≤ place_of (outcome_of (number_of (c ++ t) at))
      later at = rw (placed (number_of (c ++ t) at)) (number_later (c ++ t) at)

      within : (at : ℕ) (n : Result Number NoNumber) → number_of (c ++ t) at ≡ n → place_of (outcome_of n) < length c → Within (length c) n
      within at (Ok n) e h = h
      within at (Err (TooLarge place)) e h = none at place e h
      within at (Err (Nothing place)) e h = h

      told : (at : ℕ) → place_of (outcome_of (number_of (c ++ t) at)) < length c → outcome_of (number_of (c ++ t') at) ≡ outcome_of (number_of (c ++ t) at)
      told at h = ap outcome_of (number_same c t t' at (within at (number_of (c ++ t) at) refl h))
