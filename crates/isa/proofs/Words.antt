-- The fields of a word that was put together of them, for each form of a word.
use mathlib.Core.Path.{◌≡◌}
use Prim.Native.Nat.{ℕ, ◌^◌, ◌<◌}
use native.Mathlib.Omega.{arith}
use Rattle.isa.specs.Fields.{opcode, rs, rt, rd, shamt, funct, immediate, target}
use Rattle.isa.specs.Encode.{r_type, i_type, j_type}

module _ (o s t d h f : ℕ) (hs : s < 32) (ht : t < 32) (hd : d < 32) (hh : h < 32) (hf : f < 64) where
  pub r_opcode : opcode (r_type o s t d h f) ≡ o
  r_opcode = omega arith

  pub r_rs : rs (r_type o s t d h f) ≡ s
  r_rs = omega arith

  pub r_rt : rt (r_type o s t d h f) ≡ t
  r_rt = omega arith

  pub r_rd : rd (r_type o s t d h f) ≡ d
  r_rd = omega arith

  pub r_shamt : shamt (r_type o s t d h f) ≡ h
  r_shamt = omega arith

  pub r_funct : funct (r_type o s t d h f) ≡ f
  r_funct = omega arith

module _ (o s t i : ℕ) (hs : s < 32) (ht : t < 32) (hi : i < 2 ^ 16) where
  pub i_opcode : opcode (i_type o s t i) ≡ o
  i_opcode = omega arith

  pub i_rs : rs (i_type o s t i) ≡ s
  i_rs = omega arith

  pub i_rt : rt (i_type o s t i) ≡ t
  i_rt = omega arith

  pub i_immediate : immediate (i_type o s t i) ≡ i
  i_immediate = omega arith

module _ (o n : ℕ) (hn : n < 2 ^ 26) where
  pub j_opcode : opcode (j_type o n) ≡ o
  j_opcode = omega arith

  pub j_target : target (j_type o n) ≡ n
  j_target = omega arith
