-- Below 2^31 no word is a load or a store, so that it meets no two matches; and in a table that is not doubled no step does.
use Rattle.std.specs.Prelude.{Result, Ok, Err}
use Prim.Native.Nat.{ℕ, zero, suc, ◌^◌, ◌<◌}
use mathlib.Core.Path.{◌≡◌, refl}
use mathlib.Core.Bool.{Bool, cond, true, false, ◌&&◌, false≢true}
use mathlib.Core.List.{List, [], ◌∷◌}
use native.Mathlib.Nat.{not-suc-le-zero, le_of_suc-le-suc}
use native.Mathlib.Omega.{arith}
use lib.ListN.{get_or}
use Rattle.word.proofs.Cond.{both}
use Rattle.alu.specs.Sum.{addiu_of}
use Rattle.isa.specs.Fields.{opcode, funct, rt}
use Rattle.isa.specs.Opcode as op
use Rattle.isa.specs.Opcode.{decode_of}
use Rattle.isa.specs.Special as special
use Rattle.isa.specs.Regimm as regimm
use Rattle.isa.specs.declared.instr.Instr.{Instr}
use Rattle.isa.specs.declared.instr.Instr.TheVariants.{Reserved, Unusable, Syscall, Break, Shift, ShiftBy, Register, Product, MoveFrom, MoveTo, JumpRegister, JumpLinkRegister, Jump, Compare, Sign, Immediate, LoadUpper, Load, Store}
use Rattle.isa.specs.declared.instr.Instr.TheVariants as instr
use Rattle.cp0.specs.Interrupt.{interrupts_of}
use Rattle.cp0.specs.Privilege.{mode_of}
use Rattle.cp0.specs.declared.registers.Cp0.{Cp0}
use Rattle.tlb.specs.Doubled.{doubled_in}
use Rattle.tlb.specs.declared.Row.{Row}
use Rattle.reach.specs.declared.access.Kind.{Kind}
use Rattle.reach.specs.declared.access.Kind.TheVariants as kind
use Rattle.reach.specs.declared.access.Width.{Width}
use Rattle.reach.specs.declared.access.Width.TheVariants.{Four}
use Rattle.reach.proofs.Single as reach
use Rattle.state.specs.declared.machine.Core.{Core}
use Rattle.intend.specs.Operand.{reg_of}
use Rattle.intend.specs.Access.{load_width, store_width, twice_of}
use Rattle.decide.specs.Lent.{Lent}
use Rattle.decide.specs.Fetch.{fetch_of}
use Rattle.meets.specs.Meets.{access_meets_two, fetched_meets_two, meets_two_of}
use Rattle.reach.specs.declared.Fault.{Fault}

-- ---- the table of opcodes

abbrev is_quiet : op.Opcode → Bool
is_quiet op.none = true
is_quiet op.SPECIAL = true
is_quiet op.REGIMM = true
is_quiet op.COP0 = true
is_quiet op.LUI = true
is_quiet (op.cop z) = true
is_quiet (op.jump o) = true
is_quiet (op.compare o) = true
is_quiet (op.sign o) = true
is_quiet (op.arith o) = true
is_quiet (op.load o) = false
is_quiet (op.store o) = false

abbrev quiet_to : ℕ → List op.Opcode → Bool
quiet_to zero os = true
quiet_to (suc n) [] = true
quiet_to (suc n) (o ∷ os) = is_quiet o && quiet_to n os

entry_quiet : (n : ℕ) (os : List op.Opcode) → quiet_to n os ≡ true → (k : ℕ) → k < n → is_quiet (get_or os k op.none) ≡ true
entry_quiet zero os all k h = absurd (not-suc-le-zero h)
entry_quiet (suc n) [] all k h = refl
entry_quiet (suc n) (o ∷ os) all zero h = (both (is_quiet o) (quiet_to n os) all).0
entry_quiet (suc n) (o ∷ os) all (suc k) h = entry_quiet n os (both (is_quiet o) (quiet_to n os) all).1 k (le_of_suc-le-suc h)

module _ (cp0 : Cp0) (regs : List ℕ) (t : List Row) where
  abbrev Quiet : Instr → Type 0
  Quiet i = access_meets_two cp0 regs t i ≡ false

  special_quiet : (f : special.Function) (w : ℕ) → Quiet (special.formed f w)
  special_quiet special.none w = refl
  special_quiet special.JR w = refl
  special_quiet special.JALR w = refl
  special_quiet special.SYSCALL w = refl
  special_quiet special.BREAK w = refl
  special_quiet (special.shift o) w = refl
  special_quiet (special.shift_by o) w = refl
  special_quiet (special.mf half) w = refl
  special_quiet (special.mt half) w = refl
  special_quiet (special.product o) w = refl
  special_quiet (special.register o) w = refl

  regimm_quiet : (c : regimm.Condition) (w : ℕ) → Quiet (regimm.formed c w)
  regimm_quiet regimm.none w = refl
  regimm_quiet (regimm.sign o) w = refl

  opcode_quiet : (o : op.Opcode) (w : ℕ) → is_quiet o ≡ true → Quiet (op.formed o w)
  opcode_quiet op.none w h = refl
  opcode_quiet op.SPECIAL w h = special_quiet (get_or special.functions (funct w) special.none) w
  opcode_quiet op.REGIMM w h = regimm_quiet (get_or regimm.conditions (rt w) regimm.none) w
  opcode_quiet op.COP0 w h = refl
  opcode_quiet op.LUI w h = refl
  opcode_quiet (op.cop z) w h = refl
  opcode_quiet (op.jump o) w h = refl
  opcode_quiet (op.compare o) w h = refl
  opcode_quiet (op.sign o) w h = refl
  opcode_quiet (op.arith o) w h = refl
  opcode_quiet (op.load o) w h = absurd (false≢true h)
  opcode_quiet (op.store o) w h = absurd (false≢true h)

  pub low_quiet : (w : ℕ) → w < 2 ^ 31 → Quiet (decode_of w)
  low_quiet w h = opcode_quiet (get_or op.opcodes (opcode w) op.none) w (entry_quiet 32 op.opcodes refl (opcode w) (omega arith))

  -- ---- a table that is not doubled

  module _ (not_doubled : doubled_in t ≡ false) where
    met_one : (k : Kind) (width : Width) (va : ℕ) → twice_of k width cp0 t va ≡ false
    unfolding twice_of
    met_one k width va = reach.meets_one (mode_of cp0.status) (record { kind = k; width = width }) va t cp0.entry_hi not_doubled

    access_one : (i : Instr) → Quiet i
    access_one (Load o d base offset) = met_one kind.Load (load_width o) (addiu_of (reg_of regs base) offset)
    access_one (Store o s base offset) = met_one kind.Store (store_width o) (addiu_of (reg_of regs base) offset)
    access_one Reserved = refl
    access_one (Unusable z) = refl
    access_one Syscall = refl
    access_one Break = refl
    access_one (Shift o d s by) = refl
    access_one (ShiftBy o d s by) = refl
    access_one (Register o d s by) = refl
    access_one (Product o s by) = refl
    access_one (MoveFrom half d) = refl
    access_one (MoveTo half s) = refl
    access_one (JumpRegister s) = refl
    access_one (JumpLinkRegister d s) = refl
    access_one (Jump o target) = refl
    access_one (Compare o s by offset) = refl
    access_one (Sign o s offset) = refl
    access_one (Immediate o d s imm) = refl
    access_one (LoadUpper d imm) = refl
    access_one (instr.Control control) = refl

    fetched_one : (f : Result ℕ Fault) → fetched_meets_two cp0 regs t f ≡ false
    fetched_one (Ok word) = access_one (decode_of word)
    fetched_one (Err fault) = refl

either : (b : Bool) → cond b false false ≡ false
either true = refl
either false = refl

pub meets_one : (core : Core) (regs : List ℕ) (t : List Row) (lent : Lent) → doubled_in t ≡ false → meets_two_of core regs t lent ≡ false
unfolding meets_two_of
meets_one core regs t lent not_doubled =
    rw (met_one core.cp0 regs t not_doubled kind.Fetch Four core.pc, fetched_one core.cp0 regs t not_doubled (fetch_of core t lent))
    (either (interrupts_of core.cp0.status core.cp0.cause))
