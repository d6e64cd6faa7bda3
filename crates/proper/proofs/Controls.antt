-- What an intent says, in a machine of words that keeps the rules, and that the words of COP0 intend such.
use Rattle.std.specs.Prelude.{Option, Some, None}
use Prim.Native.Nat.{ℕ, ◌*◌, ◌%◌, ◌^◌, ◌≤◌, ◌<◌}
use mathlib.Core.Path.{refl}
use mathlib.Core.List.{List}
use native.Mathlib.Nat.{mod-lt}
use native.Mathlib.Omega.{arith}
use lib.ListN.{length, get_or}
use Rattle.word.specs.Mask.{within}
use Rattle.word.proofs.Cond.{picked}
use Rattle.isa.specs.declared.instr.Control.{Control}
use Rattle.isa.specs.declared.instr.Control.TheVariants.{Undefined, Mfc0, Mtc0, Tlbr, Tlbwi, Tlbwr, Tlbp, Rfe}
use Rattle.isa.specs.declared.instr.ControlRegister.{ControlRegister}
use Rattle.isa.specs.declared.instr.ControlRegister.TheVariants.{Index, Status}
use Rattle.cp0.specs.Privilege.{usable_of}
use Rattle.cp0.specs.Registers.{read_of, with_register, with_entry}
use Rattle.cp0.specs.declared.registers.Cp0.{Cp0}
use Rattle.tlb.specs.Entry.{no_row, read_at}
use Rattle.tlb.specs.Index.{index_of, probed_of}
use Rattle.tlb.specs.Search.{found_in}
use Rattle.tlb.specs.declared.Hit.{Hit}
use Rattle.tlb.specs.declared.Row.{Row}
use Rattle.printer.proofs.Each.{each_holds}
use Rattle.intend.specs.Control.{written_word, popped_word, function_of, control_of}
use Rattle.intend.specs.Operand.{reg_of}
use Rattle.intend.specs.declared.intent.Intent.{Intent}
use Rattle.intend.specs.declared.intent.Intent.TheVariants.{Write, Branch, HiLo, Load, Store, SetControl, SetEntry, SetRow, Trap}
use Rattle.proper.specs.Proper.{ControlGood, RowGood}
use Rattle.proper.proofs.Coded.{Coded}
use Rattle.proper.proofs.Entered.{popped_good}
use Rattle.proper.proofs.Overlaid.{overlaid_good}
use Rattle.proper.proofs.Registers.{Good, each_of, with_good, entry_row, with_entry_good}

-- what is written are words that keep the rules, and what is raised has a code
abbrev pub Means : Cp0 → ℕ → Intent → Type 0
Means c pending (Write d v) = v < 2 ^ 32
Means c pending (Branch d v next) = (v < 2 ^ 32) × (next < 2 ^ 32)
Means c pending (HiLo hi lo) = (hi < 2 ^ 32) × (lo < 2 ^ 32)
Means c pending (Load op d va answer) = (va < 2 ^ 32) × Coded answer
Means c pending (Store op x va answer) = (x < 2 ^ 32) × (va < 2 ^ 32) × Coded answer
Means c pending (SetControl r word) = ControlGood (with_register r word c) pending
Means c pending (SetEntry row) = ControlGood (with_entry row.high row.low c) pending
Means c pending (SetRow i row) = RowGood row
Means c pending (Trap code coprocessor) = code ≤ 12

probed_good : (pending : ℕ) (found : Option Hit) → Good Index pending (probed_of found)
probed_good pending (Some hit) =
    record {
      small = omega arith;
      kept = each_holds (2 ^ 6) (λ j. within 0x80003F00 (j * 2 ^ 8)) refl (hit.at % 2 ^ 6) (mod-lt hit.at (omega arith));
    }
probed_good pending None = record { small = omega arith; kept = refl }

module _ (c : Cp0) (pending : ℕ) (g : ControlGood c pending) where
  written_good : (r : ControlRegister) (word : ℕ) → Good r pending (written_word r word c)
  written_good r word = overlaid_good pending (read_of r c) word r (each_of c pending g r)

  module _ (regs : List ℕ) (t : List Row) (some : 0 < length t) (rows : (i : ℕ) → i < length t → RowGood (get_or t i no_row)) where
    function_means : (f : Control) → Means c pending (function_of c regs t f)
    unfolding function_of
    function_means Undefined = omega arith
    function_means (Mfc0 rt r) = (each_of c pending g r).small
    function_means (Mtc0 rt r) = with_good c pending g r (written_word r (reg_of regs rt) c) (written_good r (reg_of regs rt))
    function_means Tlbr =
        with_entry_good c pending (read_at t (index_of c.index)) g (rows (index_of c.index % length t) (mod-lt (index_of c.index) some))
    function_means Tlbwi = entry_row c pending g
    function_means Tlbwr = entry_row c pending g
    function_means Tlbp = with_good c pending g Index (probed_of (found_in c.entry_hi t)) (probed_good pending (found_in c.entry_hi t))
    function_means Rfe = with_good c pending g Status (popped_word c) (popped_good pending c.status (each_of c pending g Status))

    pub control_means : (f : Control) → Means c pending (control_of c regs t f)
    unfolding control_of
    control_means f = picked (Means c pending) (usable_of c.status) _ _ (λ _. function_means f) (λ _. omega arith)
