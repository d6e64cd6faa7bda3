-- The checksum of bytes behind bytes.
use mathlib.Core.Path.{◌≡◌, ap, sym, ◌∙◌}
use mathlib.Core.List.{List, [], ◌∷◌, ◌++◌}
use Prim.Native.Nat.{ℕ, ◌+◌, ◌%◌, ◌<◌}
use native.Mathlib.Nat.{zero-add, add-zero}
use native.Mathlib.Numerals.{add-one}
use native.Mathlib.Omega.{arith}
use lib.ListN.{length, get_or, take}
use lib.Seq.{take-suc}
use Rattle.remote.specs.Sum.{total_of, sum_of}

total_append : (s t : List ℕ) → total_of (s ++ t) ≡ total_of s + total_of t
unfolding total_of
total_append [] t = sym (zero-add _)
total_append (b ∷ s) t = let e : total_of (s ++ t) ≡ total_of s + total_of t = total_append s t in omega arith

pub sum_append : (s t : List ℕ) (sum : ℕ) → sum ≡ sum_of s → (sum + total_of t) % 256 ≡ sum_of (s ++ t)
sum_append s t sum e = let a : total_of (s ++ t) ≡ total_of s + total_of t = total_append s t in omega arith

-- the first i bytes, and the next
pub sum_more : (bytes : List ℕ) (i sum : ℕ) → i < length bytes → sum ≡ sum_of (take i bytes) → (sum + get_or bytes i 0) % 256 ≡ sum_of (take (i + 1) bytes)
unfolding total_of
sum_more bytes i sum h e =
    rw (add-one i, take-suc bytes i 0 h)
    (ap (λ x. (sum + x) % 256) (sym (add-zero (get_or bytes i 0))) ∙ sum_append (take i bytes) (get_or bytes i 0 ∷ []) sum e)
