-- Ranges of numbers; a word of k bits as a signed number, and a number's low k bits, at any k.
use Rattle.std.specs.Prelude.{ℕ, ◌+◌, ◌-◌, ◌%◌, ◌^◌, Bool, true, false, cond, ◌&&◌, leb, ltb, ℤ, pos, negsuc, neg_ℤ}
use Rattle.std.specs.Int.Signed.{lt_z, le_z}

-- low ≤ x ≤ high
abbrev pub between : ℕ → ℕ → ℕ → Bool
between low high x = leb low x && leb x high

-- two's complement: below half it is itself, and from half on it is the whole less than that
abbrev pub twos : ℕ → ℕ → ℤ
twos half x = cond (ltb x half) (pos x) (neg_ℤ (pos (half + half - x)))

abbrev pub signed : ℕ → ℕ → ℤ
signed k x = twos (2 ^ (k - 1)) x

-- z modulo n, which lies in 0 to n - 1
abbrev pub modulo : ℕ → ℤ → ℕ
modulo n (pos a) = a % n
modulo n (negsuc a) = n - 1 - a % n

abbrev pub bits : ℕ → ℤ → ℕ
bits k z = modulo (2 ^ k) z

-- the low k bits of x, extended by their sign to a word
abbrev pub extended : ℕ → ℕ → ℕ
extended k x = bits 32 (signed k (x % 2 ^ k))

-- - half ≤ z < half: a word of the width holds it
abbrev pub fits : ℕ → ℤ → Bool
fits half z = lt_z z (pos half) && le_z (neg_ℤ (pos half)) z

-- ---- aids to proofs: nothing that a reader must believe

abbrev pub with_sign : Bool → ℕ → ℤ
with_sign false size = pos size
with_sign true size = neg_ℤ (pos size)
