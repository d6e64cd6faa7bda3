-- The digits that are written for a number are worth it.
use mathlib.Core.Path.{◌≡◌, refl, ap, ◌∙◌}
use mathlib.Core.Bool.{Bool, true, false, cond}
use lib.Dec.{ltb}
use borrow.Author.Tests.{lt-ltb, ltb-true}
use mathlib.Core.List.{List, [], ◌∷◌, ◌++◌}
use Prim.Native.Nat.{ℕ, zero, suc, ◌+◌, ◌*◌, ◌/◌, ◌%◌, ◌<◌, ◌≤◌, ◌^◌}
use native.Mathlib.Nat.{zero-add, pow-zero, pow-suc, div-lt_iff_lt-mul, mod-lt, div-add-mod'}
use native.Mathlib.Omega.{arith}
use Rattle.text.specs.Digit.{digit_of, value_from, value_of}
use Rattle.text.specs.Spelt.{face_of, low_of, decimal_in}

-- a digit's face is worth the digit
pub face_worth : (d : ℕ) → d < 16 → digit_of (face_of d) ≡ d
unfolding digit_of face_of
face_worth zero h = refl
face_worth (suc zero) h = refl
face_worth (suc (suc zero)) h = refl
face_worth (suc (suc (suc zero))) h = refl
face_worth (suc (suc (suc (suc zero)))) h = refl
face_worth (suc (suc (suc (suc (suc zero))))) h = refl
face_worth (suc (suc (suc (suc (suc (suc zero)))))) h = refl
face_worth (suc (suc (suc (suc (suc (suc (suc zero))))))) h = refl
face_worth (suc (suc (suc (suc (suc (suc (suc (suc zero)))))))) h = refl
face_worth (suc (suc (suc (suc (suc (suc (suc (suc (suc zero))))))))) h = refl
face_worth (suc (suc (suc (suc (suc (suc (suc (suc (suc (suc zero)))))))))) h = refl
face_worth (suc (suc (suc (suc (suc (suc (suc (suc (suc (suc (suc zero))))))))))) h = refl
face_worth (suc (suc (suc (suc (suc (suc (suc (suc (suc (suc (suc (suc zero)))))))))))) h = refl
face_worth (suc (suc (suc (suc (suc (suc (suc (suc (suc (suc (suc (suc (suc zero))))))))))))) h = refl
face_worth (suc (suc (suc (suc (suc (suc (suc (suc (suc (suc (suc (suc (suc (suc zero)))))))))))))) h = refl
face_worth (suc (suc (suc (suc (suc (suc (suc (suc (suc (suc (suc (suc (suc (suc (suc zero))))))))))))))) h = refl
face_worth (suc (suc (suc (suc (suc (suc (suc (suc (suc (suc (suc (suc (suc (suc (suc (suc d)))))))))))))))) h = absurd (omega arith)

value_append : (base v : ℕ) (s t : List ℕ) → value_from base v (s ++ t) ≡ value_from base (value_from base v s) t
unfolding value_from
value_append base v [] t = refl
value_append base v (b ∷ s) t = value_append base (v * base + digit_of b) s t

-- the low digits of a number that has no more write it
pub low_value : (base : ℕ) → 1 ≤ base → base ≤ 16 → (n v : ℕ) → v < base ^ n → value_of base (low_of base n v) ≡ v
unfolding low_of value_from
low_value base l h zero v k = omega (arith, pow-zero base)
low_value base l h (suc n) v k =
    let small : v / base < base ^ n = (div-lt_iff_lt-mul l).1 (rw pow-suc at k) in
    let digit : v % base < 16 = omega (arith, mod-lt v l) in
    value_append base 0 (low_of base n (v / base)) (face_of (v % base) ∷ [])
    ∙ ap (λ x. x * base + digit_of (face_of (v % base))) (low_value base l h n (v / base) small)
    ∙ ap (λ d. v / base * base + d) (face_worth (v % base) digit)
    ∙ div-add-mod' v base

-- and so do those of a number in decimal
pub decimal_value : (n v : ℕ) → v < 10 ^ suc n → value_of 10 (decimal_in (suc n) v) ≡ v
unfolding decimal_in value_from
decimal_value zero v k = rw (lt-ltb v 10 k) (zero-add _ ∙ face_worth v (omega arith))
decimal_value (suc n) v k =
    let ten : 1 ≤ 10 = omega arith in
    let small : v / 10 < 10 ^ suc n = (div-lt_iff_lt-mul ten).1 (rw pow-suc at k) in
    go (ltb v 10) refl (decimal_value n (v / 10) small)
  where
    go : (t : Bool) → ltb v 10 ≡ t → value_of 10 (decimal_in (suc n) (v / 10)) ≡ v / 10
        → value_of 10 (cond t (face_of v ∷ []) (decimal_in (suc n) (v / 10) ++ face_of (v % 10) ∷ [])) ≡ v
    go true e ih = let h : v < 10 = ltb-true v 10 e in zero-add _ ∙ face_worth v (omega arith)
    go false e ih =
        value_append 10 0 (decimal_in (suc n) (v / 10)) (face_of (v % 10) ∷ [])
        ∙ ap (λ x. x * 10 + digit_of (face_of (v % 10))) ih
        ∙ ap (λ d. v / 10 * 10 + d) (face_worth (v % 10) (omega arith))
        ∙ div-add-mod' v 10
