-- What MTC0 changes: of its register the bits of the mask, and nothing else.
use Prim.Native.Nat.{ℕ, ◌^◌, ◌<◌}
use mathlib.Core.Path.{◌≡◌, refl, ap, ◌∙◌}
use mathlib.Core.Logic.{◌≢◌}
use mathlib.Core.Bool.{cond}
use borrow.Author.Tests.{eq-eqb, ne_eqb}
use lib.Dec.{eqb, lit<}
use Prim.{tt}
use Rattle.word.specs.Map.{bit}
use Rattle.word.specs.Mask.{overlaid_of}
use Rattle.word.proofs.Within.{BitsIn}
use Rattle.word.proofs.Masks.{overlaid_bit, overlaid_within, overlaid_none}
use Rattle.isa.specs.Encode.{control_code}
use Rattle.isa.specs.declared.instr.ControlRegister.{ControlRegister}
use Rattle.isa.specs.declared.instr.ControlRegister.TheVariants.{Index, Random, EntryLo, BadVAddr, EntryHi, Status, Cause, Epc}
use Rattle.cp0.specs.declared.registers.Cp0.{Cp0}
use Rattle.cp0.specs.Registers.{read_of, with_register}
use Rattle.cp0.specs.Written.{mask_of, written_of}

-- CP0 by what each register reads
abbrev all_of : (ControlRegister → ℕ) → Cp0
all_of f =
    record {
      index = f Index;
      random = f Random;
      entry_hi = f EntryHi;
      entry_lo = f EntryLo;
      bad_vaddr = f BadVAddr;
      status = f Status;
      cause = f Cause;
      epc = f Epc;
    }

read_all : (f : ControlRegister → ℕ) (q : ControlRegister) → read_of q (all_of f) ≡ f q
read_all f Index = refl
read_all f Random = refl
read_all f EntryLo = refl
read_all f BadVAddr = refl
read_all f EntryHi = refl
read_all f Status = refl
read_all f Cause = refl
read_all f Epc = refl

-- the eight clauses at once: what each register reads, by its number
abbrev each : ControlRegister → ℕ → Cp0 → ControlRegister → ℕ
each r word c q = cond (eqb (control_code q) (control_code r)) word (read_of q c)

by_number : (r : ControlRegister) (word : ℕ) (c : Cp0) → with_register r word c ≡ all_of (each r word c)
unfolding with_register
by_number Index word c = refl
by_number Random word c = refl
by_number EntryLo word c = refl
by_number BadVAddr word c = refl
by_number EntryHi word c = refl
by_number Status word c = refl
by_number Cause word c = refl
by_number Epc word c = refl

module _ (r : ControlRegister) (word : ℕ) (c : Cp0) where
  pub read_it : read_of r (with_register r word c) ≡ word
  read_it = ap (read_of r) (by_number r word c) ∙ read_all (each r word c) r ∙ rw (eq-eqb (control_code r) (control_code r) refl)

  pub read_other : (q : ControlRegister) → control_code q ≢ control_code r → read_of q (with_register r word c) ≡ read_of q c
  read_other q apart = ap (read_of q) (by_number r word c) ∙ read_all (each r word c) q ∙ rw (ne_eqb (control_code q) (control_code r) apart)

mask_fits : (r : ControlRegister) → mask_of r < 2 ^ 32
mask_fits Index = lit< tt
mask_fits Random = lit< tt
mask_fits EntryLo = lit< tt
mask_fits BadVAddr = lit< tt
mask_fits EntryHi = lit< tt
mask_fits Status = lit< tt
mask_fits Cause = lit< tt
mask_fits Epc = lit< tt

same_again : (r : ControlRegister) (c : Cp0) → with_register r (read_of r c) c ≡ c
unfolding with_register
same_again Index c = refl
same_again Random c = refl
same_again EntryLo c = refl
same_again BadVAddr c = refl
same_again EntryHi c = refl
same_again Status c = refl
same_again Cause c = refl
same_again Epc c = refl

module _ (r : ControlRegister) (word : ℕ) (c : Cp0) where
  abbrev after : Cp0
  after = written_of r word c

  -- the new word of the register
  pub written_word : read_of r after ≡ overlaid_of (mask_of r) (read_of r c) word
  unfolding written_of
  written_word = read_it r (overlaid_of (mask_of r) (read_of r c) word) c

  pub written_bit : (k : ℕ) → k < 32 → bit k (read_of r after) ≡ cond (bit k (mask_of r)) (bit k word) (bit k (read_of r c))
  unfolding overlaid_of
  written_bit k h = rw written_word (overlaid_bit 32 (mask_of r) (read_of r c) word (mask_fits r) k h)

  pub others_kept : (q : ControlRegister) → control_code q ≢ control_code r → read_of q after ≡ read_of q c
  unfolding written_of
  others_kept q apart = read_other r (overlaid_of (mask_of r) (read_of r c) word) c q apart

  -- a register within a mask that has all bits of its own stays within it
  pub written_within : (m : ℕ) → BitsIn 32 m (read_of r c) → BitsIn 32 m (mask_of r) → BitsIn 32 m (read_of r after)
  unfolding overlaid_of
  written_within m old own = rw written_word (overlaid_within 32 (mask_of r) (read_of r c) word (mask_fits r) m old own)

  -- "to Random, BadVAddr, EPC nothing"
  pub nothing_written : mask_of r ≡ 0 → read_of r c < 2 ^ 32 → after ≡ c
  unfolding written_of overlaid_of
  nothing_written none small = rw (none, overlaid_none 32 (read_of r c) word small) (same_again r c)
