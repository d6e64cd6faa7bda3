-- What the branches test: BEQ, BNE, BLEZ, BGTZ, and BLTZ, BGEZ with or without a link.
use Rattle.std.specs.Prelude.{ℕ, Bool, not, pos, ◌==◌, int_le, int_lt}
use Rattle.word.specs.Number.{signed}

abbrev pub eq_of : ℕ → ℕ → Bool
eq_of x y = x == y

abbrev pub ne_of : ℕ → ℕ → Bool
ne_of x y = not (x == y)

abbrev pub lez_of : ℕ → Bool
lez_of x = int_le (signed 32 x) (pos 0)

abbrev pub gtz_of : ℕ → Bool
gtz_of x = int_lt (pos 0) (signed 32 x)

abbrev pub ltz_of : ℕ → Bool
ltz_of x = int_lt (signed 32 x) (pos 0)

abbrev pub gez_of : ℕ → Bool
gez_of x = int_le (pos 0) (signed 32 x)
