-- Exception entry leaves a CP0 that keeps the rules.
use Prim.{tt}
use Prim.Native.Nat.{ℕ, ◌+◌, ◌^◌, ◌≤◌, ◌<◌}
use mathlib.Core.Bool.{Bool}
use mathlib.Core.Path.{◌≡◌, refl, sym, ap, ◌∙◌}
use native.Mathlib.Omega.{arith}
use lib.Dec.{lit<}
use Rattle.word.specs.Map.{bit}
use Rattle.word.specs.Number.{between}
use Rattle.word.proofs.BitLaws.{shr_bit, low_bit}
use Rattle.word.proofs.Cond.{picked}
use Rattle.isa.specs.declared.instr.ControlRegister.{ControlRegister}
use Rattle.isa.specs.declared.instr.ControlRegister.TheVariants.{Index, Random, EntryLo, BadVAddr, EntryHi, Status, Cause, Epc}
use Rattle.cp0.specs.Entry.{page_mask, entry_mask, fields_of, cause_of, bad_v_addr_of, entry_hi_of, entered_of}
use Rattle.cp0.specs.Interrupt as interrupt
use Rattle.cp0.specs.Registers.{read_of}
use Rattle.cp0.specs.Word.{word_of, pushed_of, popped_of}
use Rattle.cp0.specs.Written.{status_mask, entry_hi_mask}
use Rattle.cp0.specs.declared.entry.Exception.{Exception}
use Rattle.cp0.specs.declared.registers.Cp0.{Cp0}
use Rattle.cp0.proofs.Entries.{ip_kept, code_told}
use Rattle.cp0.proofs.StatusBits.{pushed_within, popped_within}
use Rattle.rules.proofs.Masks.{within_bits, bits_within}
use Rattle.proper.specs.Proper.{ControlGood}
use Rattle.proper.proofs.Causes.{cause_bits, cause_rules, cause_moves}
use Rattle.proper.proofs.Overlaid.{overlaid_word, overlaid_keeps}
use Rattle.proper.proofs.Registers.{Good, each_of, all_good}

word_of_small : (m n v a : ℕ) → m < 2 ^ 6 → n < 2 ^ 18 → v < 2 ^ 3 → a < 2 ^ 5 → word_of m n v a < 2 ^ 32
word_of_small m n v a hm hn hv ha = omega arith

module _ (pending word : ℕ) (g : Good Status pending word) where
  pushed_small : (pushed_of (record { word = word })).word < 2 ^ 32
  unfolding pushed_of
  pushed_small = let fits = g.small in word_of_small _ _ _ _ (omega arith) (omega arith) (omega arith) (omega arith)

  popped_small : (popped_of (record { word = word })).word < 2 ^ 32
  unfolding popped_of
  popped_small = let fits = g.small in word_of_small _ _ _ _ (omega arith) (omega arith) (omega arith) (omega arith)

  pub pushed_good : Good Status pending (pushed_of (record { word = word })).word
  pushed_good =
      record {
        small = pushed_small;
        kept = bits_within status_mask (pushed_of (record { word = word })).word (lit< tt) pushed_small (pushed_within (record { word = word }) (within_bits status_mask word (lit< tt) g.kept));
      }

  -- RFE
  pub popped_good : Good Status pending (popped_of (record { word = word })).word
  popped_good =
      record {
        small = popped_small;
        kept = bits_within status_mask (popped_of (record { word = word })).word (lit< tt) popped_small (popped_within (record { word = word }) (within_bits status_mask word (lit< tt) g.kept));
      }

-- the bits of IP
line_bit : (k cause : ℕ) → k < 8 → bit k (interrupt.ip cause) ≡ bit (8 + k) cause
line_bit k cause h = low_bit 8 k _ h ∙ shr_bit 8 k cause

module _ (e : Exception) (slot : Bool) (epc : ℕ) (c : Cp0) (pending : ℕ) (code : e.code ≤ 12) (address : e.address < 2 ^ 32) (fits : epc < 2 ^ 32)
    (g : ControlGood c pending) where
  line_kept : (k : ℕ) → 3 ≤ k → k < 8 → bit (8 + k) (cause_of e slot c.cause) ≡ bit (8 + k) c.cause
  unfolding entered_of
  line_kept k low high = sym (line_bit k (cause_of e slot c.cause) high) ∙ ap (bit k) (ip_kept e slot epc c) ∙ line_bit k c.cause high

  cause_small : cause_of e slot c.cause < 2 ^ 32
  unfolding cause_of
  cause_small =
      overlaid_word entry_mask cause_bits c.cause (fields_of e slot) (lit< tt) (lit< tt) refl (each_of c pending g Cause).small

  cause_good : Good Cause pending (cause_of e slot c.cause)
  unfolding entered_of cause_of
  cause_good =
      let was = each_of c pending g Cause in
      let told = code_told e slot epc c (omega arith) in
      record {
        small = cause_small;
        kept = cause_moves c.cause (cause_of e slot c.cause) pending line_kept was.kept (overlaid_keeps entry_mask cause_bits c.cause (fields_of e slot) (lit< tt) (lit< tt) refl was.small (cause_rules c.cause pending was.kept).inside) (omega arith);
      }

  bad_address_good : Good BadVAddr pending (bad_v_addr_of e c.bad_vaddr)
  unfolding bad_v_addr_of
  bad_address_good =
      picked (Good BadVAddr pending) (between 1 5 e.code) _ _ (λ _. record { small = address; kept = refl }) (λ _. each_of c pending g BadVAddr)

  entry_good : Good EntryHi pending (entry_hi_of e c.entry_hi)
  unfolding entry_hi_of
  entry_good =
      let was = each_of c pending g EntryHi in
      picked (Good EntryHi pending) (between 1 3 e.code) _ _
      (λ _.
      record {
        small = overlaid_word page_mask entry_hi_mask c.entry_hi e.address (lit< tt) (lit< tt) refl was.small;
        kept = overlaid_keeps page_mask entry_hi_mask c.entry_hi e.address (lit< tt) (lit< tt) refl was.small was.kept;
      })
      (λ _. was)

  each_entered : (r : ControlRegister) → Good r pending (read_of r (entered_of e slot epc c))
  unfolding entered_of
  each_entered Index = each_of c pending g Index
  each_entered Random = each_of c pending g Random
  each_entered EntryLo = each_of c pending g EntryLo
  each_entered BadVAddr = bad_address_good
  each_entered EntryHi = entry_good
  each_entered Status = pushed_good pending c.status (each_of c pending g Status)
  each_entered Cause = cause_good
  each_entered Epc = record { small = fits; kept = refl }

  pub entered_good : ControlGood (entered_of e slot epc c) pending
  entered_good = all_good (entered_of e slot epc c) pending each_entered
