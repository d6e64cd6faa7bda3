-- What the integer instructions compute from words are words.
use Prim.{tt}
use Prim.Native.Nat.{ℕ, ◌+◌, ◌*◌, ◌%◌, ◌^◌, ◌<◌}
use mathlib.Core.Bool.{Bool}
use native.Mathlib.Nat.{mod-lt, div-le_self, lt_of_le_of_lt}
use native.Mathlib.Omega.{arith}
use borrow.Author.Tests.{eqb-false}
use lib.Bits.{and_le_l, or_lt, xor_lt}
use lib.Dec.{eqb, ltb}
use lib.IntN.{ℤ, pos, ◌+ℤ◌, ◌-ℤ◌, ◌*ℤ◌}
use lib.Pow.{shr_le}
use lib.Signed.{lt_z, quot_z, rem_z, shr_z}
use Rattle.word.specs.Number.{signed, bits, fits, extended}
use Rattle.word.proofs.Cond.{picked}
use Rattle.alu.proofs.Fits.{product_fits}
use Rattle.alu.specs.HiLo.{split}
use Rattle.alu.specs.Jumps.{branch_of, jump_of, link_of}
use Rattle.alu.specs.Logic.{immediate, lui_of}
use Rattle.alu.specs.Sum.{exactly, flag}
use Rattle.alu.specs.declared.product.HiLo.{HiLo}
use Rattle.std.proofs.Common.{Option, Some, None}
use Rattle.isa.specs.declared.instr.HiLo as isa
use Rattle.isa.specs.declared.instr.HiLo.TheVariants.{Hi, Lo}
use Rattle.isa.specs.declared.instr.ShiftOp.{ShiftOp}
use Rattle.isa.specs.declared.instr.ShiftOp.TheVariants.{Sll, Srl, Sra}
use Rattle.isa.specs.declared.instr.RegisterOp.{RegisterOp}
use Rattle.isa.specs.declared.instr.RegisterOp.TheVariants.{Add, Addu, Sub, Subu, And, Or, Xor, Nor, Slt, Sltu}
use Rattle.isa.specs.declared.instr.ImmediateOp.{ImmediateOp}
use Rattle.isa.specs.declared.instr.ImmediateOp.TheVariants.{Addi, Addiu, Slti, Sltiu, Andi, Ori, Xori}
use Rattle.isa.specs.declared.instr.ProductOp.{ProductOp}
use Rattle.isa.specs.declared.instr.ProductOp.TheVariants.{Mult, Multu, Div, Divu}
use Rattle.intend.specs.HiLo.{product_of, half_of, with_half}
use Rattle.intend.specs.Operate.{shift_of, register_of, immediate_of}
use Rattle.proper.proofs.Words.{bits_small}

-- a sum, where there is one
abbrev pub Summed : Option ℕ → Type 0
Summed (Some v) = v < 2 ^ 32
Summed None = Unit {0}

pub record Halves (words : HiLo) : Type 0 where
  pub hi : words.hi < 2 ^ 32
  pub lo : words.lo < 2 ^ 32

exactly_word : (z : ℤ) → Summed (exactly z)
exactly_word z = picked Summed (fits (2 ^ 31) z) _ _ (λ _. bits_small 32 z) (λ _. tt)

flag_word : (b : Bool) → flag b < 2 ^ 32
flag_word b = picked (λ x. x < 2 ^ 32) b 1 0 (λ _. omega arith) (λ _. omega arith)

immediate_word : (imm : ℕ) → immediate imm < 2 ^ 32
immediate_word imm = omega arith

pub lui_word : (imm : ℕ) → lui_of imm < 2 ^ 32
lui_word imm = omega arith

pub branch_word : (pc offset : ℕ) → branch_of pc offset < 2 ^ 32
branch_word pc offset = bits_small 32 (pos (pc + 4) +ℤ signed 16 (offset % 2 ^ 16) *ℤ pos 4)

pub jump_word : (pc index : ℕ) → jump_of pc index < 2 ^ 32
jump_word pc index = omega arith

pub link_word : (pc : ℕ) → link_of pc < 2 ^ 32
link_word pc = mod-lt (pc + 8) (omega arith)

split_words : (p : ℕ) → p < 2 ^ 32 * 2 ^ 32 → Halves (split p)
split_words p h = record { hi = omega arith; lo = mod-lt p (omega arith) }

module _ (x : ℕ) (fits : x < 2 ^ 32) where
  pub shift_word : (op : ShiftOp) (by : ℕ) → shift_of op x by < 2 ^ 32
  shift_word Sll by = mod-lt (x * 2 ^ (by % 32)) (omega arith)
  shift_word Srl by = lt_of_le_of_lt (shr_le x (by % 32)) fits
  shift_word Sra by = bits_small 32 (shr_z (signed 32 x) (2 ^ (by % 32)))

  pub immediate_sum : (op : ImmediateOp) (imm : ℕ) → Summed (immediate_of op x imm)
  immediate_sum Addi imm = exactly_word (signed 32 x +ℤ signed 32 (extended 16 imm))
  immediate_sum Addiu imm = mod-lt (x + extended 16 imm) (omega arith)
  immediate_sum Slti imm = flag_word (lt_z (signed 32 x) (signed 32 (extended 16 imm)))
  immediate_sum Sltiu imm = flag_word (ltb x (extended 16 imm))
  immediate_sum Andi imm = lt_of_le_of_lt (and_le_l x (immediate imm)) fits
  immediate_sum Ori imm = or_lt 32 x (immediate imm) fits (immediate_word imm)
  immediate_sum Xori imm = xor_lt 32 x (immediate imm) fits (immediate_word imm)

  module _ (y : ℕ) (small : y < 2 ^ 32) where
    pub register_sum : (op : RegisterOp) → Summed (register_of op x y)
    register_sum Add = exactly_word (signed 32 x +ℤ signed 32 y)
    register_sum Addu = mod-lt (x + y) (omega arith)
    register_sum Sub = exactly_word (signed 32 x -ℤ signed 32 y)
    register_sum Subu = bits_small 32 (pos x -ℤ pos y)
    register_sum And = lt_of_le_of_lt (and_le_l x y) fits
    register_sum Or = or_lt 32 x y fits small
    register_sum Xor = xor_lt 32 x y fits small
    register_sum Nor = omega arith
    register_sum Slt = flag_word (lt_z (signed 32 x) (signed 32 y))
    register_sum Sltu = flag_word (ltb x y)

    module _ (kept : HiLo) (was : Halves kept) where
      pub product_words : (op : ProductOp) → Halves (product_of op x y kept)
      product_words Mult = split_words (bits 64 (signed 32 x *ℤ signed 32 y)) (bits_small 64 (signed 32 x *ℤ signed 32 y))
      product_words Multu = split_words (x * y) (product_fits 32 x y fits small)
      product_words Div =
          picked Halves (eqb y 0) kept _ (λ _. was)
          (λ _.
          record {
            hi = bits_small 32 (rem_z (signed 32 x) (signed 32 y));
            lo = bits_small 32 (quot_z (signed 32 x) (signed 32 y));
          })
      product_words Divu =
          picked Halves (eqb y 0) kept _ (λ _. was)
          (λ off.
          let apart = eqb-false y 0 off in
          let some : 0 < y = omega arith in
          let rest : x % y < y = mod-lt x some in
          record { hi = omega arith; lo = lt_of_le_of_lt (div-le_self x y) fits })

  module _ (kept : HiLo) (was : Halves kept) where
    pub with_half_words : (half : isa.HiLo) → Halves (with_half half x kept)
    with_half_words Hi = record { hi = fits; lo = was.lo }
    with_half_words Lo = record { hi = was.hi; lo = fits }

pub half_word : (half : isa.HiLo) (kept : HiLo) → Halves kept → half_of half kept < 2 ^ 32
half_word Hi kept was = was.hi
half_word Lo kept was = was.lo
