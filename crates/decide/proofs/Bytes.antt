-- Bytes of three numbers one after the other, and a shift by whole bytes. Once, over how many bytes each gives.
use mathlib.Core.Path.{◌≡◌, refl, sym, ap, ◌∙◌}
use mathlib.Core.List.{◌++◌}
use Prim.Native.Nat.{ℕ, zero, suc, ◌+◌, ◌*◌, ◌%◌, ◌^◌}
use native.Mathlib.Nat.{suc-mul, pow-suc}
use lib.ListN.{length-append}
use lib.Pow.{pow-add}
use Rattle.word.specs.Little.{from_bytes, to_bytes}
use Rattle.word.proofs.LittleBytes.{length_to, from_append, from_to}

pub three : (a b c x y z : ℕ) → from_bytes (to_bytes a x ++ to_bytes b y ++ to_bytes c z) ≡ x % 256 ^ a + 256 ^ a * (y % 256 ^ b) + 256 ^ (a + b) * (z % 256 ^ c)
three a b c x y z = simp (from_append, length-append, length_to, from_to)

pub octets : (k : ℕ) → 2 ^ (k * 8) ≡ 256 ^ k
octets zero = refl
octets (suc k) = ap (λ n. 2 ^ n) (suc-mul k 8) ∙ pow-add 2 (k * 8) 8 ∙ ap (λ p. p * 256) (octets k) ∙ sym (pow-suc 256 k)
