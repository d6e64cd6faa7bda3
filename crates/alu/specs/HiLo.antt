-- MULT, MULTU, DIV and DIVU: what HI and LO hold afterwards.
use Rattle.std.specs.Prelude.{ℕ, ◌*◌, ◌/◌, ◌%◌, ◌^◌, cond, ◌*ℤ◌, ◌==◌, int_div, int_rem}
use Rattle.word.specs.Number.{signed, bits}
use Rattle.alu.specs.declared.product.HiLo.{HiLo}

-- the 64 bits of a product, the high word in HI
abbrev pub split : ℕ → HiLo
split p = record { hi = p / 2 ^ 32; lo = p % 2 ^ 32 }

abbrev pub mult_of : ℕ → ℕ → HiLo
mult_of x y = split (bits 64 (signed 32 x *ℤ signed 32 y))

abbrev pub multu_of : ℕ → ℕ → HiLo
multu_of x y = split (x * y)

-- the quotient is rounded toward zero, and the remainder has the dividend's sign
abbrev pub div_of : ℕ → ℕ → HiLo → HiLo
div_of x y kept =
    cond (y == 0) kept
    (record { hi = bits 32 (int_rem (signed 32 x) (signed 32 y)); lo = bits 32 (int_div (signed 32 x) (signed 32 y)) })

abbrev pub divu_of : ℕ → ℕ → HiLo → HiLo
divu_of x y kept = cond (y == 0) kept (record { hi = x % y; lo = x / y })
