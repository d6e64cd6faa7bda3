-- A word names registers below 32: its fields have five bits.
use Prim.{tt}
use Prim.Native.Nat.{ℕ, zero, suc, ◌<◌}
use mathlib.Core.Path.{◌≡◌, refl}
use mathlib.Core.Bool.{Bool, true, false, ◌&&◌, false≢true}
use mathlib.Core.List.{List, [], ◌∷◌}
use native.Mathlib.Omega.{arith}
use lib.ListN.{get_or}
use Rattle.word.proofs.Cond.{both}
use Rattle.isa.specs.Fields.{opcode, rs, rt, funct}
use Rattle.isa.specs.Special as special
use Rattle.isa.specs.Regimm as regimm
use Rattle.isa.specs.Cop0 as cop0
use Rattle.isa.specs.Opcode as op
use Rattle.isa.specs.Opcode.{decode_of}
use Rattle.std.proofs.Common.{Option, Some, None}
use Rattle.isa.specs.declared.instr.ControlRegister.{ControlRegister}
use Rattle.isa.specs.declared.instr.Control.{Control}
use Rattle.isa.specs.declared.instr.Control.TheVariants.{Undefined, Mfc0, Mtc0, Tlbr, Tlbwi, Tlbwr, Tlbp, Rfe}
use Rattle.isa.specs.declared.instr.Instr.{Instr}
use Rattle.isa.specs.declared.instr.Instr.TheVariants.{Reserved, Unusable, Syscall, Break, Shift, ShiftBy, Register, Product, MoveFrom, MoveTo, JumpRegister, JumpLinkRegister, Jump, Compare, Sign, Immediate, LoadUpper, Load, Store}
use Rattle.isa.specs.declared.instr.Instr.TheVariants as instr

-- the register that the instruction writes, where it names one
abbrev pub NamedControl : Control → Type 0
NamedControl Undefined = Unit {0}
NamedControl (Mfc0 t r) = t < 32
NamedControl (Mtc0 t r) = Unit {0}
NamedControl Tlbr = Unit {0}
NamedControl Tlbwi = Unit {0}
NamedControl Tlbwr = Unit {0}
NamedControl Tlbp = Unit {0}
NamedControl Rfe = Unit {0}

abbrev pub Names : Instr → Type 0
Names Reserved = Unit {0}
Names (Unusable z) = Unit {0}
Names Syscall = Unit {0}
Names Break = Unit {0}
Names (Shift op d t by) = d < 32
Names (ShiftBy op d t s) = d < 32
Names (Register op d s t) = d < 32
Names (Product op s t) = Unit {0}
Names (MoveFrom half d) = d < 32
Names (MoveTo half s) = Unit {0}
Names (JumpRegister s) = Unit {0}
Names (JumpLinkRegister d s) = d < 32
Names (Jump op target) = Unit {0}
Names (Compare op s t offset) = Unit {0}
Names (Sign op s offset) = Unit {0}
Names (Immediate op t s i) = t < 32
Names (LoadUpper t i) = t < 32
Names (Load op t base offset) = t < 32
Names (Store op t base offset) = Unit {0}
Names (instr.Control c) = NamedControl c

special_names : (f : special.Function) (w : ℕ) → Names (special.formed f w)
special_names special.none w = tt
special_names special.JR w = tt
special_names special.JALR w = omega arith
special_names special.SYSCALL w = tt
special_names special.BREAK w = tt
special_names (special.shift op) w = omega arith
special_names (special.shift_by op) w = omega arith
special_names (special.mf half) w = omega arith
special_names (special.mt half) w = tt
special_names (special.product op) w = tt
special_names (special.register op) w = omega arith

regimm_names : (c : regimm.Condition) (w : ℕ) → Names (regimm.formed c w)
regimm_names regimm.none w = tt
regimm_names (regimm.sign op) w = tt

from_names : (n : Option ControlRegister) (t : ℕ) → t < 32 → NamedControl (cop0.from_of n t)
from_names None t h = tt
from_names (Some r) t h = h

to_names : (n : Option ControlRegister) (t : ℕ) → NamedControl (cop0.to_of n t)
to_names None t = tt
to_names (Some r) t = tt

-- CP0's functions are no moves
abbrev is_function : Control → Bool
is_function Undefined = true
is_function (Mfc0 t r) = false
is_function (Mtc0 t r) = false
is_function Tlbr = true
is_function Tlbwi = true
is_function Tlbwr = true
is_function Tlbp = true
is_function Rfe = true

abbrev are_functions : List Control → Bool
are_functions [] = true
are_functions (c ∷ cs) = is_function c && are_functions cs

entry_is_function : (table : List Control) → are_functions table ≡ true → (i : ℕ) → is_function (get_or table i Undefined) ≡ true
entry_is_function [] all i = refl
entry_is_function (c ∷ cs) all zero = (both (is_function c) (are_functions cs) all).0
entry_is_function (c ∷ cs) all (suc i) = entry_is_function cs (both (is_function c) (are_functions cs) all).1 i

function_names : (c : Control) → is_function c ≡ true → NamedControl c
function_names Undefined e = tt
function_names (Mfc0 t r) e = absurd (false≢true e)
function_names (Mtc0 t r) e = tt
function_names Tlbr e = tt
function_names Tlbwi e = tt
function_names Tlbwr e = tt
function_names Tlbp e = tt
function_names Rfe e = tt

control_names : (m : cop0.Move) (w : ℕ) → NamedControl (cop0.formed m w)
control_names cop0.none w = tt
control_names cop0.MF w = from_names (cop0.register_of w) (rt w) (omega arith)
control_names cop0.MT w = to_names (cop0.register_of w) (rt w)
control_names cop0.CO w = function_names (cop0.function_of w) (entry_is_function cop0.functions refl (funct w))

opcode_names : (o : op.Opcode) (w : ℕ) → Names (op.formed o w)
opcode_names op.none w = tt
opcode_names op.SPECIAL w = special_names (get_or special.functions (funct w) special.none) w
opcode_names op.REGIMM w = regimm_names (get_or regimm.conditions (rt w) regimm.none) w
opcode_names op.COP0 w = control_names (get_or cop0.moves (rs w) cop0.none) w
opcode_names op.LUI w = omega arith
opcode_names (op.cop z) w = tt
opcode_names (op.jump o) w = tt
opcode_names (op.compare o) w = tt
opcode_names (op.sign o) w = tt
opcode_names (op.arith o) w = omega arith
opcode_names (op.load o) w = omega arith
opcode_names (op.store o) w = tt

pub decoded_names : (w : ℕ) → Names (decode_of w)
decoded_names w = opcode_names (get_or op.opcodes (opcode w) op.none) w
