-- What an instruction asks for is there: its register, the word around its address, the row of the table.
use Prim.{tt}
use Prim.Native.Nat.{ℕ, ◌<◌}
use mathlib.Core.Path.{◌≡◌}
use mathlib.Core.List.{List}
use native.Mathlib.Nat.{mod-lt}
use native.Mathlib.Omega.{arith}
use lib.ListN.{length}
use Rattle.word.proofs.Cond.{picked}
use Rattle.std.proofs.Common.{Option, Some, None}
use Rattle.isa.specs.Opcode.{decode_of}
use Rattle.isa.specs.declared.instr.Control.{Control}
use Rattle.isa.specs.declared.instr.Control.TheVariants.{Undefined, Mfc0, Mtc0, Tlbr, Tlbwi, Tlbwr, Tlbp, Rfe}
use Rattle.isa.specs.declared.instr.Instr.{Instr}
use Rattle.isa.specs.declared.instr.Instr.TheVariants.{Reserved, Unusable, Syscall, Break, Shift, ShiftBy, Register, Product, MoveFrom, MoveTo, JumpRegister, JumpLinkRegister, Jump, Compare, Sign, Immediate, LoadUpper, Load, Store}
use Rattle.isa.specs.declared.instr.Instr.TheVariants as instr
use Rattle.isa.specs.declared.instr.JumpOp.{JumpOp}
use Rattle.isa.specs.declared.instr.JumpOp.TheVariants.{J, Jal}
use Rattle.isa.specs.declared.instr.SignOp.{SignOp}
use Rattle.isa.specs.declared.instr.SignOp.TheVariants.{Bltz, Bgez, Bltzal, Bgezal, Blez, Bgtz}
use Rattle.board.specs.declared.places.Sizes.{Sizes}
use Rattle.cp0.specs.Privilege.{usable_of}
use Rattle.cp0.specs.declared.registers.Cp0.{Cp0}
use Rattle.reach.specs.declared.access.Kind.TheVariants as kind
use Rattle.tlb.specs.Index.{index_of}
use Rattle.tlb.specs.declared.Row.{Row}
use Rattle.state.specs.declared.machine.Core.{Core}
use Rattle.intend.specs.Operand.{reg_of}
use Rattle.intend.specs.Operate.{register_of, immediate_of, summed_of}
use Rattle.intend.specs.Branch.{link_register, jumps_of}
use Rattle.intend.specs.Control.{function_of, control_of}
use Rattle.intend.specs.Access.{load_width, store_width}
use Rattle.intend.specs.Intend.{intend_of}
use Rattle.intend.specs.declared.intent.Intent.{Intent}
use Rattle.decide.specs.Lent.{Lent, sizes_of, Whole}
use Rattle.decide.specs.Range.{Asks}
use Rattle.decide.proofs.Held.{reached_held}
use Rattle.decide.proofs.Named.{Names, NamedControl, decoded_names}

link_small : (op : SignOp) → link_register op < 32
link_small Bltz = omega arith
link_small Bgez = omega arith
link_small Bltzal = omega arith
link_small Bgezal = omega arith
link_small Blez = omega arith
link_small Bgtz = omega arith

module _ (lent : Lent) (t : List Row) where
  abbrev Asked : Intent → Type 0
  Asked i = Asks lent (length t) i

  summed_asks : (sum : Option ℕ) (d : ℕ) → d < 32 → Asked (summed_of sum d)
  summed_asks (Some v) d h = h
  summed_asks None d h = tt

  jumps_asks : (op : JumpOp) (core : Core) (target : ℕ) → Asked (jumps_of op core target)
  jumps_asks J core target = omega arith
  jumps_asks Jal core target = omega arith

  module _ (rows : 0 < length t) (cp0 : Cp0) (regs : List ℕ) where
    function_asks : (c : Control) → NamedControl c → Asked (function_of cp0 regs t c)
    unfolding function_of
    function_asks Undefined h = tt
    function_asks (Mfc0 rt r) h = h
    function_asks (Mtc0 rt r) h = tt
    function_asks Tlbr h = tt
    function_asks Tlbwi h = mod-lt (index_of cp0.index) rows
    function_asks Tlbwr h = mod-lt (index_of cp0.random) rows
    function_asks Tlbp h = tt
    function_asks Rfe h = tt

    control_asks : (c : Control) → NamedControl c → Asked (control_of cp0 regs t c)
    unfolding control_of
    control_asks c h = picked Asked (usable_of cp0.status) _ _ (λ _. function_asks c h) (λ _. tt)

  module _ (whole : Whole lent) (rows : 0 < length t) (core : Core) (regs : List ℕ) where
    intend_asks : (i : Instr) → Names i → Asked (intend_of core regs t (sizes_of lent) i)
    unfolding intend_of
    intend_asks Reserved h = tt
    intend_asks (Unusable z) h = tt
    intend_asks Syscall h = tt
    intend_asks Break h = tt
    intend_asks (Shift op rd rt by) h = h
    intend_asks (ShiftBy op rd rt rs) h = h
    intend_asks (Register op rd rs rt) h = summed_asks (register_of op (reg_of regs rs) (reg_of regs rt)) rd h
    intend_asks (Product op rs rt) h = tt
    intend_asks (MoveFrom half rd) h = h
    intend_asks (MoveTo half rs) h = tt
    intend_asks (JumpRegister rs) h = omega arith
    intend_asks (JumpLinkRegister rd rs) h = h
    intend_asks (Jump op target) h = jumps_asks op core target
    intend_asks (Compare op rs rt offset) h = omega arith
    intend_asks (Sign op rs offset) h = link_small op
    intend_asks (Immediate op rt rs imm) h = summed_asks (immediate_of op (reg_of regs rs) imm) rt h
    intend_asks (LoadUpper rt imm) h = h
    intend_asks (Load op rt base offset) h = (h, reached_held lent whole kind.Load (load_width op) core.cp0 t _)
    intend_asks (Store op rt base offset) h = reached_held lent whole kind.Store (store_width op) core.cp0 t _
    intend_asks (instr.Control c) h = control_asks rows core.cp0 regs c h

    pub decoded_asks : (w : ℕ) → Asked (intend_of core regs t (sizes_of lent) (decode_of w))
    decoded_asks w = intend_asks (decode_of w) (decoded_names w)

    -- as a caller has it, part by part
    pub intent_asks : (w : ℕ) {i : Intent} {sizes : Sizes} {instr : Instr} → instr ≡ decode_of w → sizes ≡ sizes_of lent → i ≡ intend_of core regs t sizes instr → Asked i
    intent_asks w d s e = rw (e, s, d) (decoded_asks w)
