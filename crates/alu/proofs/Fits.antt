-- A product of two numbers of k digits has k + k.
use Rattle.std.proofs.Common.{ℕ, ◌*◌, ◌^◌, ◌<◌, lt_of_le_of_lt, le_of_lt, mul-le-mul_left, mul-lt-mul_of_pos_right, pow_pos}

pub product_fits : (k a b : ℕ) → a < 2 ^ k → b < 2 ^ k → a * b < 2 ^ k * 2 ^ k
product_fits k a b h l = lt_of_le_of_lt (mul-le-mul_left a (le_of_lt l)) (mul-lt-mul_of_pos_right h (pow_pos k))
