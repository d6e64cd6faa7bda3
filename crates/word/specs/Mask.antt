-- A word within a mask, and a word written under a mask: the bits of the mask are the new word's, all others the old one's.
use Rattle.std.specs.Prelude.{ℕ, ◌-◌, ◌^◌, Bool, eqb}
use Rattle.std.specs.Int.Bits.{bit_and, bit_or}

-- no bit of x lies outside the mask
abbrev pub within : ℕ → ℕ → Bool
within mask x = eqb (bit_and x (0xFFFFFFFF - mask)) 0

-- for words of w bits
abbrev pub overlay : ℕ → ℕ → ℕ → ℕ → ℕ
overlay w mask old new = bit_or (bit_and old ((2 ^ w - 1) - mask)) (bit_and new mask)

unfoldable pub overlaid_of : ℕ → ℕ → ℕ → ℕ
overlaid_of mask old new = overlay 32 mask old new
