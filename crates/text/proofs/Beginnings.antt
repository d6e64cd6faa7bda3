-- A number that ends within the common beginning of two lines, and is not too large, is the same in both.
use mathlib.Core.Path.{◌≡◌, refl, ap, sym, ◌∙◌}
use mathlib.Core.Bool.{Bool, true, false, cond, ◌&&◌, ◌||◌}
use mathlib.Core.Logic.{◌⊎◌, inl, inr}
use mathlib.Core.List.{List, ◌∷◌, ◌++◌}
use Prim.Native.Nat.{ℕ, suc, ◌+◌, ◌-◌, ◌<◌, ◌≤◌, ◌^◌}
use native.Mathlib.Nat.{le_refl}
use native.Mathlib.Omega.{arith}
use borrow.Author.Tests.{eqb-true, ne_eqb, ltb-true, ltb-false}
use lib.Dec.{eqb, ltb}
use lib.ListN.{length, get_or, take, drop, length-append, length-drop, get_or-append}
use lib.Seq.{drop-append-le, take-append-le, drop-cons}
use Rattle.text.specs.Head.{head_of}
use Rattle.text.specs.Digit.{digit_of, is_digit, run_of, value_of}
use Rattle.text.specs.Number.{held_of, answer_of, digits_of, digits_at, is_hex, decimal_at, number_of}
use Rattle.std.specs.Prelude.{Some, None, Result, Ok, Err}
use Rattle.text.specs.declared.found.Number.{Number}
use Rattle.text.specs.declared.found.NoNumber.{NoNumber}
use Rattle.text.specs.declared.found.NoNumber.TheVariants.{TooLarge, Nothing}
use Rattle.text.proofs.Common.{behind_same}

abbrev pub Within : ℕ → Result Number NoNumber → Type 0
Within k (Ok n) = n.to < k
Within k (Err (TooLarge place)) = ⊥
Within k (Err (Nothing place)) = place < k

run_within : (first from base : ℕ) (line : List ℕ) (k : ℕ) → Within k (digits_at first from base line) → from + run_of base (drop from line) < k
unfolding digits_at digits_of
run_within first from base line k = go (eqb (run_of base (drop from line)) 0) refl (ltb (value_of base (take (run_of base (drop from line)) (drop from line))) (2 ^ 64))
  where
    go : (z : Bool) → eqb (run_of base (drop from line)) 0 ≡ z → (y : Bool)
        → Within k (cond z (Err (Nothing from)) (answer_of (cond y (Some (value_of base (take (run_of base (drop from line)) (drop from line)))) None) first (from + run_of base (drop from line))))
        → from + run_of base (drop from line) < k
    go true e y h = let n : run_of base (drop from line) ≡ 0 = eqb-true _ _ e in omega arith
    go false e true h = h
    go false e false h = absurd h

module _ (c t t' : List ℕ) where
  digits_same : (first from base : ℕ) → from + run_of base (drop from (c ++ t)) < length c → digits_at first from base (c ++ t') ≡ digits_at first from base (c ++ t)
  unfolding digits_at digits_of
  digits_same first from base h =
      let l : from ≤ length c = omega arith in
      let k : length (drop from c) ≡ length c - from = length-drop from c in
      let fits : run_of base (drop from (c ++ t)) ≤ length (drop from c) = omega arith in
      let here : take (run_of base (drop from (c ++ t))) (drop from (c ++ t)) ≡ take (run_of base (drop from (c ++ t))) (drop from c)
      = ap (take (run_of base (drop from (c ++ t)))) (drop-append-le from c t l) ∙ take-append-le _ (drop from c) t fits in
      let there : take (run_of base (drop from (c ++ t))) (drop from (c ++ t')) ≡ take (run_of base (drop from (c ++ t))) (drop from c)
      = ap (take (run_of base (drop from (c ++ t)))) (drop-append-le from c t' l) ∙ take-append-le _ (drop from c) t' fits in
      ap (λ n. digits_of first from base n (drop from (c ++ t'))) (behind_same c t t' (is_digit base) from h)
      ∙ ap (λ s. cond (eqb (run_of base (drop from (c ++ t))) 0) (Err (Nothing from)) (answer_of (held_of (value_of base s)) first (from + run_of base (drop from (c ++ t))))) (there ∙ sym here)

  pub decimal_same : (at : ℕ) → Within (length c) (decimal_at (c ++ t) at) → decimal_at (c ++ t') at ≡ decimal_at (c ++ t) at
  decimal_same at h = digits_same at at 10 (run_within at at 10 (c ++ t) (length c) h)

-- ---- `0x`: both bytes lie in the common beginning, or the first is no `0`
asks : (a b : ℕ) → Bool
asks a b = eqb a 48 && (eqb b 120 || eqb b 88)

module _ (c : List ℕ) (at : ℕ) (h : at < length c) where
  hex_in : (t : List ℕ) → at + 1 < length c → is_hex (c ++ t) at ≡ asks (get_or c at 0) (get_or c (at + 1) 0)
  unfolding is_hex asks
  hex_in t k =
      ap (λ a. eqb a 48 && (eqb (get_or (c ++ t) (at + 1) 0) 120 || eqb (get_or (c ++ t) (at + 1) 0) 88)) (get_or-append c t 0 at h)
      ∙ ap (λ b. eqb (get_or c at 0) 48 && (eqb b 120 || eqb b 88)) (get_or-append c t 0 (at + 1) k)

  hex_not : (t : List ℕ) → eqb (get_or c at 0) 48 ≡ false → is_hex (c ++ t) at ≡ false
  unfolding is_hex
  hex_not t e = ap (λ a. eqb a 48 && (eqb (get_or (c ++ t) (at + 1) 0) 120 || eqb (get_or (c ++ t) (at + 1) 0) 88)) (get_or-append c t 0 at h) ∙ ap (λ x. x && (eqb (get_or (c ++ t) (at + 1) 0) 120 || eqb (get_or (c ++ t) (at + 1) 0) 88)) e

  hex_same : (t t' : List ℕ) → (at + 1 < length c) ⊎ (eqb (get_or c at 0) 48 ≡ false) → is_hex (c ++ t') at ≡ is_hex (c ++ t) at
  hex_same t t' (inl k) = hex_in t' k ∙ sym (hex_in t k)
  hex_same t t' (inr e) = hex_not t' e ∙ sym (hex_not t e)

  -- no digit stands there
  no_zero : (t : List ℕ) → run_of 10 (drop at (c ++ t)) ≡ 0 → eqb (get_or c at 0) 48 ≡ false
  unfolding head_of digit_of
  no_zero t e =
      let l : at < length (c ++ t) = omega (arith, length-append c t) in
      let z : run_of 10 (get_or (c ++ t) at 0 ∷ drop (suc at) (c ++ t)) ≡ 0 = ap (run_of 10) (sym (drop-cons (c ++ t) at 0 l)) ∙ e in
      ne_eqb (get_or c at 0) 48 (λ same. digit (get_or (c ++ t) at 0) (get_or-append c t 0 at h ∙ same) (run_of 10 (drop (suc at) (c ++ t))) z)
    where
      digit : (b : ℕ) → b ≡ 48 → (n : ℕ) → cond (is_digit 10 b) (suc n) 0 ≡ 0 → ⊥
      digit b p n z = let o : suc n ≡ 0 = rw p at z in omega arith

module _ (c t t' : List ℕ) (at : ℕ) where
  split : at + run_of 10 (drop at (c ++ t)) < length c → (at + 1 < length c) ⊎ (eqb (get_or c at 0) 48 ≡ false)
  split h = go (ltb (at + 1) (length c)) refl
    where
      go : (x : Bool) → ltb (at + 1) (length c) ≡ x → (at + 1 < length c) ⊎ (eqb (get_or c at 0) 48 ≡ false)
      go true e = inl (ltb-true _ _ e)
      go false e = let l : length c ≤ at + 1 = ltb-false _ _ e in let z : run_of 10 (drop at (c ++ t)) ≡ 0 = omega arith in inr (no_zero c at (omega arith) t z)

  pub number_same : Within (length c) (number_of (c ++ t) at) → number_of (c ++ t') at ≡ number_of (c ++ t) at
  unfolding number_of
  number_same h = go (is_hex (c ++ t) at) refl h
    where
      go : (x : Bool) → is_hex (c ++ t) at ≡ x → Within (length c) (cond x (digits_at at (at + 2) 16 (c ++ t)) (decimal_at (c ++ t) at))
          → cond (is_hex (c ++ t') at) (digits_at at (at + 2) 16 (c ++ t')) (decimal_at (c ++ t') at) ≡ cond x (digits_at at (at + 2) 16 (c ++ t)) (decimal_at (c ++ t) at)
      go true e w =
          let k : at + 2 + run_of 16 (drop (at + 2) (c ++ t)) < length c = run_within at (at + 2) 16 (c ++ t) (length c) w in
          ap (λ b. cond b (digits_at at (at + 2) 16 (c ++ t')) (decimal_at (c ++ t') at)) (hex_same c at (omega arith) t t' (inl (omega arith)) ∙ e)
          ∙ digits_same c t t' at (at + 2) 16 k
      go false e w =
          let k : at + run_of 10 (drop at (c ++ t)) < length c = run_within at at 10 (c ++ t) (length c) w in
          ap (λ b. cond b (digits_at at (at + 2) 16 (c ++ t')) (decimal_at (c ++ t') at)) (hex_same c at (omega arith) t t' (split k) ∙ e)
          ∙ decimal_same c t t' at w

-- ---- where a number was read to, or failed
abbrev pub place_in : Result Number NoNumber → ℕ
place_in (Ok n) = n.to
place_in (Err (TooLarge place)) = place
place_in (Err (Nothing place)) = place

digits_later : (first from base : ℕ) (line : List ℕ) → first ≤ from → first ≤ place_in (digits_at first from base line)
unfolding digits_at digits_of
digits_later first from base line h = go (eqb (run_of base (drop from line)) 0) (ltb (value_of base (take (run_of base (drop from line)) (drop from line))) (2 ^ 64))
  where
    go : (z y : Bool)
        → first ≤ place_in (cond z (Err (Nothing from)) (answer_of (cond y (Some (value_of base (take (run_of base (drop from line)) (drop from line)))) None) first (from + run_of base (drop from line))))
    go true y = h
    go false true = omega arith
    go false false = le_refl first

pub decimal_later : (line : List ℕ) (at : ℕ) → at ≤ place_in (decimal_at line at)
decimal_later line at = digits_later at at 10 line (le_refl at)

pub number_later : (line : List ℕ) (at : ℕ) → at ≤ place_in (number_of line at)
unfolding number_of
number_later line at = go (is_hex line at)
  where
    go : (x : Bool) → at ≤ place_in (cond x (digits_at at (at + 2) 16 line) (decimal_at line at))
    go true = digits_later at (at + 2) 16 line (omega arith)
    go false = decimal_later line at
