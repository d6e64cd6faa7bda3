-- The checksum of the bytes between `$` and `#`, and the two hex digits that say it.
use Rattle.std.specs.Prelude.{Bool, ◌&&◌, List, [], ◌∷◌, ℕ, ◌+◌, ◌*◌, ◌%◌, eqb}
use Rattle.text.specs.Digit.{digit_of, is_digit}

unfoldable pub total_of : List ℕ → ℕ
total_of [] = 0
total_of (b ∷ s) = b + total_of s

abbrev pub sum_of : List ℕ → ℕ
sum_of s = total_of s % 256

-- in lower or in upper case
unfoldable pub says_of : (high low sum : ℕ) → Bool
says_of high low sum = is_digit 16 high && (is_digit 16 low && eqb (digit_of high * 16 + digit_of low) sum)
