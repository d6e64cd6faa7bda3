-- Little-endian bytes and the number that they say: each gives the other back, and both go by parts. Once, over the number of bytes.
use mathlib.Core.Path.{◌≡◌, refl, sym, ap, ◌∙◌}
use mathlib.Core.List.{List, [], ◌∷◌, ◌++◌}
use Prim.Native.Nat.{ℕ, zero, suc, ◌+◌, ◌*◌, ◌/◌, ◌%◌, ◌^◌, ◌<◌}
use native.Mathlib.Nat.{zero-add, suc-add, mul_assoc, mod-one, pow-suc, pow-succ', one-le-pow, div-one, div-div-eq-div-mul}
use native.Mathlib.Omega.{arith}
use lib.Arith.{mod-mul}
use lib.ListN.{length, get_or}
use Rattle.word.specs.Little.{from_bytes, to_bytes}

pub length_to : (n x : ℕ) → length (to_bytes n x) ≡ n
unfolding to_bytes
length_to zero x = refl
length_to (suc n) x = ap suc (length_to n (x / 256))

pub from_append : (xs ys : List ℕ) → from_bytes (xs ++ ys) ≡ from_bytes xs + 256 ^ length xs * from_bytes ys
unfolding from_bytes
from_append [] ys = omega arith
from_append (x ∷ xs) ys =
    let up : 256 ^ length (x ∷ xs) * from_bytes ys ≡ 256 * (256 ^ length xs * from_bytes ys)
    = ap (λ k. k * from_bytes ys) (pow-succ' 256 (length xs)) ∙ mul_assoc 256 (256 ^ length xs) (from_bytes ys) in
    rw (from_append xs ys) (omega arith)

pub to_split : (a b x : ℕ) → to_bytes (a + b) x ≡ to_bytes a x ++ to_bytes b (x / 256 ^ a)
unfolding to_bytes
to_split zero b x = rw (zero-add, div-one)
to_split (suc a) b x =
    let rest : x / 256 / 256 ^ a ≡ x / 256 ^ suc a = div-div-eq-div-mul x 256 (256 ^ a) ∙ ap (λ k. x / k) (sym (pow-succ' 256 a)) in
    ap (λ k. to_bytes k x) (suc-add a b) ∙ ap (λ t. x % 256 ∷ t) (to_split a b (x / 256) ∙ ap (λ k. to_bytes a (x / 256) ++ to_bytes b k) rest)

-- a number's low bytes and what lies above them
cut : (n x : ℕ) → x % 256 ^ suc n ≡ (x / 256 % 256 ^ n) * 256 + x % 256
cut n x = rw pow-suc (mod-mul x (one-le-pow n 256 (omega arith)) (omega arith))

pub from_to : (n x : ℕ) → from_bytes (to_bytes n x) ≡ x % 256 ^ n
unfolding from_bytes to_bytes
from_to zero x = sym (mod-one x)
from_to (suc n) x = let both = cut n x in rw (from_to n (x / 256)) (omega arith)

pub to_from : (bs : List ℕ) → ((i : ℕ) → i < length bs → get_or bs i 0 < 256) → to_bytes (length bs) (from_bytes bs) ≡ bs
unfolding from_bytes to_bytes
to_from [] h = refl
to_from (b ∷ bs) h =
    let small : b < 256 = h 0 (omega arith) in
    let low : (b + 256 * from_bytes bs) % 256 ≡ b = omega arith in
    let high : (b + 256 * from_bytes bs) / 256 ≡ from_bytes bs = omega arith in
    (λ i. low i ∷ to_bytes (length bs) (high i)) ∙ ap (λ t. b ∷ t) (to_from bs (λ i l. h (suc i) (let s : i < length bs = l in omega arith)))
