-- A decimal number, beside the number at the same place: where it fails, and that no `0x` is too large a decimal number.
use mathlib.Core.Path.{◌≡◌, refl, ap, sym, ◌∙◌}
use mathlib.Core.Bool.{Bool, true, false, cond, ◌&&◌, ◌||◌, false≢true}
use mathlib.Core.List.{List, ◌∷◌}
use Prim.Native.Nat.{ℕ, suc, ◌+◌, ◌<◌, ◌^◌}
use native.Mathlib.Numerals.{add-one}
use native.Mathlib.Omega.{arith}
use borrow.Author.Tests.{eqb-true}
use lib.Dec.{eqb, ltb}
use lib.ListN.{length, get_or, take, drop}
use lib.Seq.{drop-cons}
use Rattle.text.specs.Head.{head_of}
use Rattle.text.specs.Digit.{digit_of, run_of, value_of, value_from}
use Rattle.text.specs.Number.{answer_of, digits_of, digits_at, is_hex, decimal_at, number_of}
use Rattle.std.specs.Prelude.{Some, None, Result, Ok, Err}
use Rattle.text.specs.declared.found.Number.{Number}
use Rattle.text.specs.declared.found.NoNumber.{NoNumber}
use Rattle.text.specs.declared.found.NoNumber.TheVariants.{TooLarge, Nothing}
use Rattle.text.proofs.Numbers.{hex_within}
use Rattle.text.proofs.Beginnings.{place_in}

-- whether it is too large, and whether there is none
too_large : Result Number NoNumber → Bool
too_large (Ok n) = false
too_large (Err (TooLarge place)) = true
too_large (Err (Nothing place)) = false

missing : Result Number NoNumber → Bool
missing (Ok n) = false
missing (Err (TooLarge place)) = false
missing (Err (Nothing place)) = true

-- where there is none, it fails where it is tried
pub decimal_nothing : (line : List ℕ) (at place : ℕ) → decimal_at line at ≡ Err (Nothing place) → place ≡ at
unfolding digits_at digits_of missing
decimal_nothing line at place e =
    go (eqb (run_of 10 (drop at line)) 0) (ltb (value_of 10 (take (run_of 10 (drop at line)) (drop at line))) (2 ^ 64)) e
  where
    go : (z y : Bool)
        → cond z (Err (Nothing at)) (answer_of (cond y (Some (value_of 10 (take (run_of 10 (drop at line)) (drop at line)))) None) at (at + run_of 10 (drop at line))) ≡ Err (Nothing place)
        → place ≡ at
    go true y e = sym (ap place_in e)
    go false true e = absurd (false≢true (ap missing e))
    go false false e = absurd (false≢true (ap missing e))

-- `0x` as a decimal number is 0
zero : (at a b : ℕ) (r : List ℕ) → eqb a 48 && (eqb b 120 || eqb b 88) ≡ true → too_large (digits_of at at 10 (run_of 10 (a ∷ b ∷ r)) (a ∷ b ∷ r)) ≡ false
unfolding digits_of head_of digit_of value_from too_large
zero at a b r h = go (eqb a 48) refl (eqb b 120) refl (eqb b 88) refl h
  where
    known : a ≡ 48 → (k : ℕ) → b ≡ k → too_large (digits_of at at 10 (run_of 10 (a ∷ b ∷ r)) (a ∷ b ∷ r)) ≡ too_large (digits_of at at 10 (run_of 10 (48 ∷ k ∷ r)) (48 ∷ k ∷ r))
    known e k d =
        ap (λ x. too_large (digits_of at at 10 (run_of 10 (x ∷ b ∷ r)) (x ∷ b ∷ r))) e
        ∙ ap (λ y. too_large (digits_of at at 10 (run_of 10 (48 ∷ y ∷ r)) (48 ∷ y ∷ r))) d

    go : (x : Bool) → eqb a 48 ≡ x → (y : Bool) → eqb b 120 ≡ y → (z : Bool) → eqb b 88 ≡ z → x && (y || z) ≡ true
        → too_large (digits_of at at 10 (run_of 10 (a ∷ b ∷ r)) (a ∷ b ∷ r)) ≡ false
    go true e true d z f h = known (eqb-true a 48 e) 120 (eqb-true b 120 d)
    go true e false d true f h = known (eqb-true a 48 e) 88 (eqb-true b 88 f)
    go true e false d false f h = absurd (false≢true h)
    go false e y d z f h = absurd (false≢true h)

hex_small : (line : List ℕ) (at : ℕ) → is_hex line at ≡ true → too_large (decimal_at line at) ≡ false
unfolding is_hex digits_at
hex_small line at h =
    let k : at + 1 < length line = hex_within line at h in
    let two : drop at line ≡ get_or line at 0 ∷ get_or line (at + 1) 0 ∷ drop (suc (at + 1)) line =
    drop-cons line at 0 (omega arith) ∙ ap (λ n. get_or line at 0 ∷ drop n line) (sym (add-one at)) ∙ ap (λ s. get_or line at 0 ∷ s) (drop-cons line (at + 1) 0 k) in
    ap (λ s. too_large (digits_of at at 10 (run_of 10 s) s)) two ∙ zero at (get_or line at 0) (get_or line (at + 1) 0) (drop (suc (at + 1)) line) h

-- and so too large a decimal number is the number at its place
pub decimal_large : (line : List ℕ) (at place : ℕ) → decimal_at line at ≡ Err (TooLarge place) → number_of line at ≡ Err (TooLarge place)
unfolding number_of too_large
decimal_large line at place e = go (is_hex line at) refl
  where
    go : (x : Bool) → is_hex line at ≡ x → cond x (digits_at at (at + 2) 16 line) (decimal_at line at) ≡ Err (TooLarge place)
    go true h = absurd (false≢true (sym (hex_small line at h) ∙ ap too_large e))
    go false h = e
