-- The book's two sides agree: each table has an operation at the number of the operation's own page.
use mathlib.Core.Path.{◌≡◌, refl}
use mathlib.Core.List.{List}
use Prim.Native.Nat.{ℕ, ◌<◌}
use lib.Dec.{lit<}
use lib.ListN.{get_or}
use Rattle.isa.specs.Special.{functions}
use Rattle.isa.specs.Special as F
use Rattle.isa.specs.Opcode.{opcodes}
use Rattle.isa.specs.Opcode as O
use Rattle.isa.specs.Cop0.{registers}
use Rattle.isa.specs.Encode.{shift_code, shift_by_code, register_code, product_code, from_code, to_code, jump_code, compare_code, immediate_code, load_code, store_code, control_code}
use Rattle.std.proofs.Common.{Some, None}
use Rattle.isa.specs.declared.instr.ShiftOp.{ShiftOp}
use Rattle.isa.specs.declared.instr.ShiftOp.TheVariants.{Sll, Srl, Sra}
use Rattle.isa.specs.declared.instr.RegisterOp.{RegisterOp}
use Rattle.isa.specs.declared.instr.RegisterOp.TheVariants.{Add, Addu, Sub, Subu, And, Or, Xor, Nor, Slt, Sltu}
use Rattle.isa.specs.declared.instr.ProductOp.{ProductOp}
use Rattle.isa.specs.declared.instr.ProductOp.TheVariants.{Mult, Multu, Div, Divu}
use Rattle.isa.specs.declared.instr.HiLo.{HiLo}
use Rattle.isa.specs.declared.instr.HiLo.TheVariants.{Hi, Lo}
use Rattle.isa.specs.declared.instr.JumpOp.{JumpOp}
use Rattle.isa.specs.declared.instr.JumpOp.TheVariants.{J, Jal}
use Rattle.isa.specs.declared.instr.CompareOp.{CompareOp}
use Rattle.isa.specs.declared.instr.CompareOp.TheVariants.{Beq, Bne}
use Rattle.isa.specs.declared.instr.ImmediateOp.{ImmediateOp}
use Rattle.isa.specs.declared.instr.ImmediateOp.TheVariants.{Addi, Addiu, Slti, Sltiu, Andi, Ori, Xori}
use Rattle.isa.specs.declared.instr.LoadOp.{LoadOp}
use Rattle.isa.specs.declared.instr.LoadOp.TheVariants.{Lb, Lh, Lwl, Lw, Lbu, Lhu, Lwr}
use Rattle.isa.specs.declared.instr.StoreOp.{StoreOp}
use Rattle.isa.specs.declared.instr.StoreOp.TheVariants.{Sb, Sh, Swl, Sw, Swr}
use Rattle.isa.specs.declared.instr.ControlRegister.{ControlRegister}
use Rattle.isa.specs.declared.instr.ControlRegister.TheVariants.{Index, Random, EntryLo, BadVAddr, EntryHi, Status, Cause, Epc}

-- the entry e stands at a code, which its field holds
pub record At {A : Type 0} (field : ℕ) (table : List A) (past : A) (code : ℕ) (e : A) : Type 0 where
  pub fits : code < field
  pub entry : get_or table code past ≡ e

pub shift_listed : (op : ShiftOp) → At 64 functions F.none (shift_code op) (F.shift op)
shift_listed Sll = record { fits = lit< tt; entry = refl }
shift_listed Srl = record { fits = lit< tt; entry = refl }
shift_listed Sra = record { fits = lit< tt; entry = refl }

pub shift_by_listed : (op : ShiftOp) → At 64 functions F.none (shift_by_code op) (F.shift_by op)
shift_by_listed Sll = record { fits = lit< tt; entry = refl }
shift_by_listed Srl = record { fits = lit< tt; entry = refl }
shift_by_listed Sra = record { fits = lit< tt; entry = refl }

pub register_listed : (op : RegisterOp) → At 64 functions F.none (register_code op) (F.register op)
register_listed Add = record { fits = lit< tt; entry = refl }
register_listed Addu = record { fits = lit< tt; entry = refl }
register_listed Sub = record { fits = lit< tt; entry = refl }
register_listed Subu = record { fits = lit< tt; entry = refl }
register_listed And = record { fits = lit< tt; entry = refl }
register_listed Or = record { fits = lit< tt; entry = refl }
register_listed Xor = record { fits = lit< tt; entry = refl }
register_listed Nor = record { fits = lit< tt; entry = refl }
register_listed Slt = record { fits = lit< tt; entry = refl }
register_listed Sltu = record { fits = lit< tt; entry = refl }

pub product_listed : (op : ProductOp) → At 64 functions F.none (product_code op) (F.product op)
product_listed Mult = record { fits = lit< tt; entry = refl }
product_listed Multu = record { fits = lit< tt; entry = refl }
product_listed Div = record { fits = lit< tt; entry = refl }
product_listed Divu = record { fits = lit< tt; entry = refl }

pub from_listed : (op : HiLo) → At 64 functions F.none (from_code op) (F.mf op)
from_listed Hi = record { fits = lit< tt; entry = refl }
from_listed Lo = record { fits = lit< tt; entry = refl }

pub to_listed : (op : HiLo) → At 64 functions F.none (to_code op) (F.mt op)
to_listed Hi = record { fits = lit< tt; entry = refl }
to_listed Lo = record { fits = lit< tt; entry = refl }

pub jump_listed : (op : JumpOp) → At 64 opcodes O.none (jump_code op) (O.jump op)
jump_listed J = record { fits = lit< tt; entry = refl }
jump_listed Jal = record { fits = lit< tt; entry = refl }

pub compare_listed : (op : CompareOp) → At 64 opcodes O.none (compare_code op) (O.compare op)
compare_listed Beq = record { fits = lit< tt; entry = refl }
compare_listed Bne = record { fits = lit< tt; entry = refl }

pub immediate_listed : (op : ImmediateOp) → At 64 opcodes O.none (immediate_code op) (O.arith op)
immediate_listed Addi = record { fits = lit< tt; entry = refl }
immediate_listed Addiu = record { fits = lit< tt; entry = refl }
immediate_listed Slti = record { fits = lit< tt; entry = refl }
immediate_listed Sltiu = record { fits = lit< tt; entry = refl }
immediate_listed Andi = record { fits = lit< tt; entry = refl }
immediate_listed Ori = record { fits = lit< tt; entry = refl }
immediate_listed Xori = record { fits = lit< tt; entry = refl }

pub load_listed : (op : LoadOp) → At 64 opcodes O.none (load_code op) (O.load op)
load_listed Lb = record { fits = lit< tt; entry = refl }
load_listed Lh = record { fits = lit< tt; entry = refl }
load_listed Lwl = record { fits = lit< tt; entry = refl }
load_listed Lw = record { fits = lit< tt; entry = refl }
load_listed Lbu = record { fits = lit< tt; entry = refl }
load_listed Lhu = record { fits = lit< tt; entry = refl }
load_listed Lwr = record { fits = lit< tt; entry = refl }

pub store_listed : (op : StoreOp) → At 64 opcodes O.none (store_code op) (O.store op)
store_listed Sb = record { fits = lit< tt; entry = refl }
store_listed Sh = record { fits = lit< tt; entry = refl }
store_listed Swl = record { fits = lit< tt; entry = refl }
store_listed Sw = record { fits = lit< tt; entry = refl }
store_listed Swr = record { fits = lit< tt; entry = refl }

pub control_listed : (r : ControlRegister) → At 32 registers None (control_code r) (Some r)
control_listed Index = record { fits = lit< tt; entry = refl }
control_listed Random = record { fits = lit< tt; entry = refl }
control_listed EntryLo = record { fits = lit< tt; entry = refl }
control_listed BadVAddr = record { fits = lit< tt; entry = refl }
control_listed EntryHi = record { fits = lit< tt; entry = refl }
control_listed Status = record { fits = lit< tt; entry = refl }
control_listed Cause = record { fits = lit< tt; entry = refl }
control_listed Epc = record { fits = lit< tt; entry = refl }
