-- The other direction: the word of an instruction, by the numbers on the instruction's own page of the book. Unused fields are 0.
use Rattle.std.specs.Prelude.{ℕ, ◌+◌, ◌*◌, ◌^◌, ◌<◌}
use Rattle.isa.specs.declared.instr.ShiftOp.{ShiftOp}
use Rattle.isa.specs.declared.instr.ShiftOp.TheVariants.{Sll, Srl, Sra}
use Rattle.isa.specs.declared.instr.RegisterOp.{RegisterOp}
use Rattle.isa.specs.declared.instr.RegisterOp.TheVariants.{Add, Addu, Sub, Subu, And, Or, Xor, Nor, Slt, Sltu}
use Rattle.isa.specs.declared.instr.ProductOp.{ProductOp}
use Rattle.isa.specs.declared.instr.ProductOp.TheVariants.{Mult, Multu, Div, Divu}
use Rattle.isa.specs.declared.instr.HiLo.{HiLo}
use Rattle.isa.specs.declared.instr.HiLo.TheVariants.{Hi, Lo}
use Rattle.isa.specs.declared.instr.JumpOp.{JumpOp}
use Rattle.isa.specs.declared.instr.JumpOp.TheVariants.{J, Jal}
use Rattle.isa.specs.declared.instr.CompareOp.{CompareOp}
use Rattle.isa.specs.declared.instr.CompareOp.TheVariants.{Beq, Bne}
use Rattle.isa.specs.declared.instr.SignOp.{SignOp}
use Rattle.isa.specs.declared.instr.SignOp.TheVariants.{Bltz, Bgez, Bltzal, Bgezal, Blez, Bgtz}
use Rattle.isa.specs.declared.instr.ImmediateOp.{ImmediateOp}
use Rattle.isa.specs.declared.instr.ImmediateOp.TheVariants.{Addi, Addiu, Slti, Sltiu, Andi, Ori, Xori}
use Rattle.isa.specs.declared.instr.LoadOp.{LoadOp}
use Rattle.isa.specs.declared.instr.LoadOp.TheVariants.{Lb, Lh, Lwl, Lw, Lbu, Lhu, Lwr}
use Rattle.isa.specs.declared.instr.StoreOp.{StoreOp}
use Rattle.isa.specs.declared.instr.StoreOp.TheVariants.{Sb, Sh, Swl, Sw, Swr}
use Rattle.isa.specs.declared.instr.ControlRegister.{ControlRegister}
use Rattle.isa.specs.declared.instr.ControlRegister.TheVariants.{Index, Random, EntryLo, BadVAddr, EntryHi, Status, Cause, Epc}
use Rattle.isa.specs.declared.instr.Control.{Control}
use Rattle.isa.specs.declared.instr.Control.TheVariants.{Undefined, Mfc0, Mtc0, Tlbr, Tlbwi, Tlbwr, Tlbp, Rfe}
use Rattle.isa.specs.declared.instr.Instr.{Instr}
use Rattle.isa.specs.declared.instr.Instr.TheVariants.{Reserved, Unusable, Syscall, Break, Shift, ShiftBy, Register, Product, MoveFrom, MoveTo, JumpRegister, JumpLinkRegister, Jump, Compare, Sign, Immediate, LoadUpper, Load, Store}
use Rattle.isa.specs.declared.instr.Instr.TheVariants as instr

-- ---- the forms of a word
abbrev pub r_type : ℕ → ℕ → ℕ → ℕ → ℕ → ℕ → ℕ
r_type op s t d shamt funct = op * 2 ^ 26 + s * 2 ^ 21 + t * 2 ^ 16 + d * 2 ^ 11 + shamt * 2 ^ 6 + funct

abbrev pub i_type : ℕ → ℕ → ℕ → ℕ → ℕ
i_type op s t i = op * 2 ^ 26 + s * 2 ^ 21 + t * 2 ^ 16 + i

abbrev pub j_type : ℕ → ℕ → ℕ
j_type op target = op * 2 ^ 26 + target

-- ---- the numbers: of SPECIAL's functions
abbrev pub shift_code : ShiftOp → ℕ
shift_code Sll = 0
shift_code Srl = 2
shift_code Sra = 3

abbrev pub shift_by_code : ShiftOp → ℕ
shift_by_code Sll = 4
shift_by_code Srl = 6
shift_by_code Sra = 7

abbrev pub register_code : RegisterOp → ℕ
register_code Add = 32
register_code Addu = 33
register_code Sub = 34
register_code Subu = 35
register_code And = 36
register_code Or = 37
register_code Xor = 38
register_code Nor = 39
register_code Slt = 42
register_code Sltu = 43

abbrev pub product_code : ProductOp → ℕ
product_code Mult = 24
product_code Multu = 25
product_code Div = 26
product_code Divu = 27

abbrev pub from_code : HiLo → ℕ
from_code Hi = 16
from_code Lo = 18

abbrev pub to_code : HiLo → ℕ
to_code Hi = 17
to_code Lo = 19

-- ---- of opcodes
abbrev pub jump_code : JumpOp → ℕ
jump_code J = 2
jump_code Jal = 3

abbrev pub compare_code : CompareOp → ℕ
compare_code Beq = 4
compare_code Bne = 5

-- REGIMM's are told apart by the field rt
abbrev pub sign_code : SignOp → ℕ
sign_code Bltz = 1
sign_code Bgez = 1
sign_code Bltzal = 1
sign_code Bgezal = 1
sign_code Blez = 6
sign_code Bgtz = 7

abbrev pub sign_field : SignOp → ℕ
sign_field Bltz = 0
sign_field Bgez = 1
sign_field Bltzal = 16
sign_field Bgezal = 17
sign_field Blez = 0
sign_field Bgtz = 0

abbrev pub immediate_code : ImmediateOp → ℕ
immediate_code Addi = 8
immediate_code Addiu = 9
immediate_code Slti = 10
immediate_code Sltiu = 11
immediate_code Andi = 12
immediate_code Ori = 13
immediate_code Xori = 14

abbrev pub load_code : LoadOp → ℕ
load_code Lb = 32
load_code Lh = 33
load_code Lwl = 34
load_code Lw = 35
load_code Lbu = 36
load_code Lhu = 37
load_code Lwr = 38

abbrev pub store_code : StoreOp → ℕ
store_code Sb = 40
store_code Sh = 41
store_code Swl = 42
store_code Sw = 43
store_code Swr = 46

-- ---- of CP0's registers
abbrev pub control_code : ControlRegister → ℕ
control_code Index = 0
control_code Random = 1
control_code EntryLo = 2
control_code BadVAddr = 8
control_code EntryHi = 10
control_code Status = 12
control_code Cause = 13
control_code Epc = 14

-- ---- the word. Reserved and unusable ones have none of their own
abbrev pub encode_control : Control → ℕ
encode_control Undefined = 0
encode_control (Mfc0 t r) = r_type 16 0 t (control_code r) 0 0
encode_control (Mtc0 t r) = r_type 16 4 t (control_code r) 0 0
encode_control Tlbr = r_type 16 16 0 0 0 1
encode_control Tlbwi = r_type 16 16 0 0 0 2
encode_control Tlbwr = r_type 16 16 0 0 0 6
encode_control Tlbp = r_type 16 16 0 0 0 8
encode_control Rfe = r_type 16 16 0 0 0 16

abbrev pub encode_of : Instr → ℕ
encode_of Reserved = 0
encode_of (Unusable z) = 0
encode_of Syscall = r_type 0 0 0 0 0 12
encode_of Break = r_type 0 0 0 0 0 13
encode_of (Shift op d t shamt) = r_type 0 0 t d shamt (shift_code op)
encode_of (ShiftBy op d t s) = r_type 0 s t d 0 (shift_by_code op)
encode_of (Register op d s t) = r_type 0 s t d 0 (register_code op)
encode_of (Product op s t) = r_type 0 s t 0 0 (product_code op)
encode_of (MoveFrom half d) = r_type 0 0 0 d 0 (from_code half)
encode_of (MoveTo half s) = r_type 0 s 0 0 0 (to_code half)
encode_of (JumpRegister s) = r_type 0 s 0 0 0 8
encode_of (JumpLinkRegister d s) = r_type 0 s 0 d 0 9
encode_of (Jump op target) = j_type (jump_code op) target
encode_of (Compare op s t offset) = i_type (compare_code op) s t offset
encode_of (Sign op s offset) = i_type (sign_code op) s (sign_field op) offset
encode_of (Immediate op t s i) = i_type (immediate_code op) s t i
encode_of (LoadUpper t i) = i_type 15 0 t i
encode_of (Load op t base offset) = i_type (load_code op) base t offset
encode_of (Store op t base offset) = i_type (store_code op) base t offset
encode_of (instr.Control c) = encode_control c

-- ---- an instruction that has a word, and whose operands fit their fields
abbrev Reg : ℕ → Type 0
Reg n = n < 32

abbrev Half : ℕ → Type 0
Half n = n < 2 ^ 16

abbrev pub ProperControl : Control → Type 0
ProperControl Undefined = ⊥
ProperControl (Mfc0 t r) = Reg t
ProperControl (Mtc0 t r) = Reg t
ProperControl Tlbr = Unit {0}
ProperControl Tlbwi = Unit {0}
ProperControl Tlbwr = Unit {0}
ProperControl Tlbp = Unit {0}
ProperControl Rfe = Unit {0}

abbrev pub Proper : Instr → Type 0
Proper Reserved = ⊥
Proper (Unusable z) = ⊥
Proper Syscall = Unit {0}
Proper Break = Unit {0}
Proper (Shift op d t shamt) = Reg d × Reg t × Reg shamt
Proper (ShiftBy op d t s) = Reg d × Reg t × Reg s
Proper (Register op d s t) = Reg d × Reg s × Reg t
Proper (Product op s t) = Reg s × Reg t
Proper (MoveFrom half d) = Reg d
Proper (MoveTo half s) = Reg s
Proper (JumpRegister s) = Reg s
Proper (JumpLinkRegister d s) = Reg d × Reg s
Proper (Jump op target) = target < 2 ^ 26
Proper (Compare op s t offset) = Reg s × Reg t × Half offset
Proper (Sign op s offset) = Reg s × Half offset
Proper (Immediate op t s i) = Reg t × Reg s × Half i
Proper (LoadUpper t i) = Reg t × Half i
Proper (Load op t base offset) = Reg t × Reg base × Half offset
Proper (Store op t base offset) = Reg t × Reg base × Half offset
Proper (instr.Control c) = ProperControl c
