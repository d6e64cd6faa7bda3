-- ADD and SUB with their overflow, ADDU and SUBU modulo 2^32, and the comparisons.
use Rattle.std.specs.Prelude.{ℕ, ◌+◌, ◌%◌, ◌^◌, Bool, cond, ℤ, pos, ◌+ℤ◌, ◌-ℤ◌, int_lt, nat_lt, Option, Some, None}
use Rattle.word.specs.Number.{signed, bits, extended, fits}

-- the word that stands for z, if there is one
abbrev pub exactly : ℤ → Option ℕ
exactly z = cond (fits (2 ^ 31) z) (Some (bits 32 z)) None

abbrev pub add_of : ℕ → ℕ → Option ℕ
add_of x y = exactly (signed 32 x +ℤ signed 32 y)

abbrev pub sub_of : ℕ → ℕ → Option ℕ
sub_of x y = exactly (signed 32 x -ℤ signed 32 y)

abbrev pub addu_of : ℕ → ℕ → ℕ
addu_of x y = (x + y) % 2 ^ 32

abbrev pub subu_of : ℕ → ℕ → ℕ
subu_of x y = bits 32 (pos x -ℤ pos y)

abbrev pub flag : Bool → ℕ
flag b = cond b 1 0

abbrev pub slt_of : ℕ → ℕ → ℕ
slt_of x y = flag (int_lt (signed 32 x) (signed 32 y))

abbrev pub sltu_of : ℕ → ℕ → ℕ
sltu_of x y = flag (nat_lt x y)

-- each of the four extends the immediate by its sign, also ADDIU and SLTIU
abbrev pub addi_of : ℕ → ℕ → Option ℕ
addi_of x imm = add_of x (extended 16 imm)

abbrev pub addiu_of : ℕ → ℕ → ℕ
addiu_of x imm = addu_of x (extended 16 imm)

abbrev pub slti_of : ℕ → ℕ → ℕ
slti_of x imm = slt_of x (extended 16 imm)

abbrev pub sltiu_of : ℕ → ℕ → ℕ
sltiu_of x imm = sltu_of x (extended 16 imm)
