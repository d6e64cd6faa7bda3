-- What an instruction intends are words that keep the rules: `intend_means`.
use Prim.Native.Nat.{ℕ, ◌+◌, ◌^◌, ◌<◌}
use mathlib.Core.Bool.{Bool}
use mathlib.Core.List.{List}
use native.Mathlib.Nat.{mod-lt}
use native.Mathlib.Omega.{arith}
use lib.ListN.{length}
use Rattle.word.specs.Number.{extended}
use Rattle.word.proofs.Cond.{picked}
use Rattle.alu.specs.Sum.{addiu_of}
use Rattle.alu.specs.declared.product.HiLo as alu
use Rattle.std.proofs.Common.{Option, Some, None}
use Rattle.isa.specs.declared.instr.Instr.{Instr}
use Rattle.isa.specs.declared.instr.Instr.TheVariants.{Reserved, Unusable, Syscall, Break, Shift, ShiftBy, Register, Product, MoveFrom, MoveTo, JumpRegister, JumpLinkRegister, Jump, Compare, Sign, Immediate, LoadUpper, Load, Store}
use Rattle.isa.specs.declared.instr.Instr.TheVariants as instr
use Rattle.isa.specs.declared.instr.JumpOp.{JumpOp}
use Rattle.isa.specs.declared.instr.JumpOp.TheVariants.{J, Jal}
use Rattle.board.specs.declared.places.Sizes.{Sizes}
use Rattle.reach.specs.declared.access.Kind.TheVariants as kind
use Rattle.tlb.specs.declared.Row.{Row}
use Rattle.state.specs.declared.machine.Core.{Core}
use Rattle.intend.specs.Access.{load_width, store_width}
use Rattle.intend.specs.Branch.{compare_of, sign_of, taken_of, jumps_of}
use Rattle.intend.specs.HiLo.{kept_of}
use Rattle.intend.specs.Intend.{intend_of}
use Rattle.intend.specs.Operand.{reg_of}
use Rattle.intend.specs.Operate.{register_of, immediate_of, summed_of}
use Rattle.intend.specs.declared.intent.Intent.{Intent}
use Rattle.decide.specs.Lent.{Lent}
use Rattle.proper.specs.Proper.{Sources}
use Rattle.proper.proofs.Coded.{reached_coded}
use Rattle.proper.proofs.Controls.{Means, control_means}
use Rattle.proper.proofs.Operated.{Summed, Halves, shift_word, register_sum, immediate_sum, product_words, half_word, with_half_words, lui_word, branch_word, jump_word, link_word}
use Rattle.proper.proofs.Words.{reg_small, after_small}

address_word : (base offset : ℕ) → addiu_of base offset < 2 ^ 32
address_word base offset = mod-lt (base + extended 16 offset) (omega arith)

module _ (core : Core) (pending : ℕ) where
  abbrev Meant : Intent → Type 0
  Meant i = Means core.cp0 pending i

  summed_means : (sum : Option ℕ) (d : ℕ) → Summed sum → Meant (summed_of sum d)
  summed_means (Some v) d h = h
  summed_means None d h = omega arith

  taken_word : (test : Bool) (offset : ℕ) → taken_of core test offset < 2 ^ 32
  taken_word test offset = picked (λ x. x < 2 ^ 32) test _ _ (λ _. branch_word core.pc offset) (λ _. after_small core.next_pc)

  jumps_means : (op : JumpOp) (target : ℕ) → Meant (jumps_of op core target)
  jumps_means J target = (omega arith, jump_word core.pc target)
  jumps_means Jal target = (link_word core.pc, jump_word core.pc target)

  module _ (regs : List ℕ) (t : List Row) (lent : Lent) (sizes : Sizes) (some : 0 < length t) (s : Sources core pending regs t lent) where
    reg : (i : ℕ) → reg_of regs i < 2 ^ 32
    reg i = reg_small regs s.registers i

    halves : Halves (kept_of core)
    halves = record { hi = s.words 0 (omega arith); lo = s.words 1 (omega arith) }

    hi_lo : {words : alu.HiLo} → Halves words → (words.hi < 2 ^ 32) × (words.lo < 2 ^ 32)
    hi_lo h = (h.hi, h.lo)

    pub intend_means : (i : Instr) → Meant (intend_of core regs t sizes i)
    unfolding intend_of
    intend_means Reserved = omega arith
    intend_means (Unusable z) = omega arith
    intend_means Syscall = omega arith
    intend_means Break = omega arith
    intend_means (Shift op rd rt by) = shift_word (reg_of regs rt) (reg rt) op by
    intend_means (ShiftBy op rd rt rs) = shift_word (reg_of regs rt) (reg rt) op (reg_of regs rs)
    intend_means (Register op rd rs rt) =
        summed_means (register_of op (reg_of regs rs) (reg_of regs rt)) rd (register_sum (reg_of regs rs) (reg rs) (reg_of regs rt) (reg rt) op)
    intend_means (Product op rs rt) = hi_lo (product_words (reg_of regs rs) (reg rs) (reg_of regs rt) (reg rt) (kept_of core) halves op)
    intend_means (MoveFrom half rd) = half_word half (kept_of core) halves
    intend_means (MoveTo half rs) = hi_lo (with_half_words (reg_of regs rs) (reg rs) (kept_of core) halves half)
    intend_means (JumpRegister rs) = (omega arith, reg rs)
    intend_means (JumpLinkRegister rd rs) = (link_word core.pc, reg rs)
    intend_means (Jump op target) = jumps_means op target
    intend_means (Compare op rs rt offset) = (omega arith, taken_word (compare_of op (reg_of regs rs) (reg_of regs rt)) offset)
    intend_means (Sign op rs offset) = (link_word core.pc, taken_word (sign_of op (reg_of regs rs)) offset)
    intend_means (Immediate op rt rs imm) = summed_means (immediate_of op (reg_of regs rs) imm) rt (immediate_sum (reg_of regs rs) (reg rs) op imm)
    intend_means (LoadUpper rt imm) = lui_word imm
    intend_means (Load op rt base offset) =
        (address_word (reg_of regs base) offset, reached_coded kind.Load (load_width op) core.cp0 t sizes _)
    intend_means (Store op rt base offset) =
        (reg rt, address_word (reg_of regs base) offset, reached_coded kind.Store (store_width op) core.cp0 t sizes _)
    intend_means (instr.Control f) = control_means core.cp0 pending s.control regs t some s.rows f
