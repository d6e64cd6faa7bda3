-- The logical instructions. What each says of every bit is in proofs/LogicBits.antt.
use Rattle.std.specs.Prelude.{ℕ, ◌-◌, ◌*◌, ◌%◌, ◌^◌, bit_and, bit_or, bit_xor}

abbrev pub and_of : ℕ → ℕ → ℕ
and_of x y = bit_and x y

abbrev pub or_of : ℕ → ℕ → ℕ
or_of x y = bit_or x y

abbrev pub xor_of : ℕ → ℕ → ℕ
xor_of x y = bit_xor x y

-- all ones less a word: each bit of it turned round
abbrev pub nor_of : ℕ → ℕ → ℕ
nor_of x y = 2 ^ 32 - 1 - bit_or x y

-- the low 16 bits, with zeros above them
abbrev pub immediate : ℕ → ℕ
immediate imm = imm % 2 ^ 16

abbrev pub andi_of : ℕ → ℕ → ℕ
andi_of x imm = and_of x (immediate imm)

abbrev pub ori_of : ℕ → ℕ → ℕ
ori_of x imm = or_of x (immediate imm)

abbrev pub xori_of : ℕ → ℕ → ℕ
xori_of x imm = xor_of x (immediate imm)

abbrev pub lui_of : ℕ → ℕ
lui_of imm = immediate imm * 2 ^ 16
