-- The rules of CP0 register by register, so that a write to one needs to speak of that one alone.
use Prim.Native.Nat.{ℕ, zero, suc, ◌^◌, ◌<◌}
use mathlib.Core.Path.{◌≡◌, refl}
use mathlib.Core.Bool.{Bool, true, ◌&&◌}
use native.Mathlib.Decide.{ℕ_discrete}
use native.Mathlib.Omega.{arith}
use lib.ListN.{get_or}
use Rattle.word.specs.Lists.{Below}
use Rattle.word.specs.Mask.{within}
use Rattle.word.proofs.Cond.{both, and_true}
use Rattle.isa.specs.Cop0.{registers}
use Rattle.isa.specs.Encode.{control_code}
use Rattle.std.specs.Prelude.{Some, None}
use Rattle.isa.specs.declared.instr.ControlRegister.{ControlRegister}
use Rattle.isa.specs.declared.instr.ControlRegister.TheVariants.{Index, Random, EntryLo, BadVAddr, EntryHi, Status, Cause, Epc}
use Rattle.cp0.specs.Registers.{read_of, with_register, with_entry}
use Rattle.cp0.specs.Written.{status_mask, entry_hi_mask, entry_lo_mask}
use Rattle.cp0.specs.declared.registers.Cp0.{Cp0}
use Rattle.cp0.proofs.Writes.{read_it, read_other}
use Rattle.tlb.specs.declared.Row.{Row}
use Rattle.state.specs.Layout.{cp0_words}
use Rattle.rules.specs.Rules.{cause_keeps, random_keeps, entry_keeps, cp0_keeps}
use Rattle.proper.specs.Proper.{ControlGood, RowGood}

-- the rule of a register; `pending` is the printers' map
abbrev pub keeps_of : ControlRegister → ℕ → ℕ → Bool
keeps_of Index pending word = within 0x80003F00 word
keeps_of Random pending word = random_keeps word
keeps_of EntryLo pending word = within entry_lo_mask word
keeps_of BadVAddr pending word = true
keeps_of EntryHi pending word = within entry_hi_mask word
keeps_of Status pending word = within status_mask word
keeps_of Cause pending word = cause_keeps word pending
keeps_of Epc pending word = true

pub record Good (r : ControlRegister) (pending word : ℕ) : Type 0 where
  pub small : word < 2 ^ 32
  pub kept : keeps_of r pending word ≡ true

-- "Status within mask ..; Cause ..; Index ..; Random ..; every EntryHi .., EntryLo ..", one by one
pub record Parts (c : Cp0) (pending : ℕ) : Type 0 where
  pub index : within 0x80003F00 c.index ≡ true
  pub random : random_keeps c.random ≡ true
  pub entry : entry_keeps c.entry_hi c.entry_lo ≡ true
  pub high : within entry_hi_mask c.entry_hi ≡ true
  pub low : within entry_lo_mask c.entry_lo ≡ true
  pub status : within status_mask c.status ≡ true
  pub cause : cause_keeps c.cause pending ≡ true

module _ (c : Cp0) (pending : ℕ) where
  pub parts : cp0_keeps c pending ≡ true → Parts c pending
  parts e =
      let s = within status_mask c.status in
      let k = cause_keeps c.cause pending in
      let i = within 0x80003F00 c.index in
      let r = random_keeps c.random in
      let h₁ = both (s && k && i && r) (entry_keeps c.entry_hi c.entry_lo) e in
      let h₂ = both (s && k && i) r h₁.0 in
      let h₃ = both (s && k) i h₂.0 in
      let h₄ = both s k h₃.0 in
      let h₅ = both (within entry_hi_mask c.entry_hi) (within entry_lo_mask c.entry_lo) h₁.1 in
      record { index = h₃.1; random = h₂.1; entry = h₁.1; high = h₅.0; low = h₅.1; status = h₄.0; cause = h₄.1 }

  pub each_of : ControlGood c pending → (r : ControlRegister) → Good r pending (read_of r c)
  each_of g Index = record { small = g.words 0 (omega arith); kept = (parts g.kept).index }
  each_of g Random = record { small = g.words 1 (omega arith); kept = (parts g.kept).random }
  each_of g EntryHi = record { small = g.words 2 (omega arith); kept = (parts g.kept).high }
  each_of g EntryLo = record { small = g.words 3 (omega arith); kept = (parts g.kept).low }
  each_of g BadVAddr = record { small = g.words 4 (omega arith); kept = refl }
  each_of g Status = record { small = g.words 5 (omega arith); kept = (parts g.kept).status }
  each_of g Cause = record { small = g.words 6 (omega arith); kept = (parts g.kept).cause }
  each_of g Epc = record { small = g.words 7 (omega arith); kept = refl }

  module _ (all : (r : ControlRegister) → Good r pending (read_of r c)) where
    words_small : Below (2 ^ 32) (cp0_words c)
    words_small zero h = (all Index).small
    words_small (suc zero) h = (all Random).small
    words_small (suc (suc zero)) h = (all EntryHi).small
    words_small (suc (suc (suc zero))) h = (all EntryLo).small
    words_small (suc (suc (suc (suc zero)))) h = (all BadVAddr).small
    words_small (suc (suc (suc (suc (suc zero))))) h = (all Status).small
    words_small (suc (suc (suc (suc (suc (suc zero)))))) h = (all Cause).small
    words_small (suc (suc (suc (suc (suc (suc (suc zero))))))) h = (all Epc).small
    words_small (suc (suc (suc (suc (suc (suc (suc (suc i)))))))) h = absurd (omega arith)

    pub all_good : ControlGood c pending
    all_good =
        record {
          words = words_small;
          kept = and_true (and_true (and_true (and_true (all Status).kept (all Cause).kept) (all Index).kept) (all Random).kept) (and_true (all EntryHi).kept (all EntryLo).kept);
        }

-- a register's number names it
named_back : (r : ControlRegister) → get_or registers (control_code r) None ≡ Some r
named_back Index = refl
named_back Random = refl
named_back EntryLo = refl
named_back BadVAddr = refl
named_back EntryHi = refl
named_back Status = refl
named_back Cause = refl
named_back Epc = refl

same_register : (q r : ControlRegister) → control_code q ≡ control_code r → q ≡ r
same_register q r e = cc (named_back q, named_back r)

module _ (c : Cp0) (pending : ℕ) (g : ControlGood c pending) where
  pub with_good : (r : ControlRegister) (word : ℕ) → Good r pending word → ControlGood (with_register r word c) pending
  with_good r word now = all_good (with_register r word c) pending by
    where
      by : (q : ControlRegister) → Good q pending (read_of q (with_register r word c))
      by q =
          elim (ℕ_discrete (control_code q) (control_code r)) [
            | yes e ↦ rw (same_register q r e, read_it r word c) now
            | no apart ↦ rw (read_other r word c q apart) (each_of c pending g q)
          ]

  -- EntryHi and EntryLo as a row of the table
  pub entry_row : RowGood (record { high = c.entry_hi; low = c.entry_lo })
  entry_row =
      let hi = each_of c pending g EntryHi in
      let lo = each_of c pending g EntryLo in
      record { high = hi.small; low = lo.small; kept = and_true hi.kept lo.kept }

-- TLBR
pub with_entry_good : (c : Cp0) (pending : ℕ) (row : Row) → ControlGood c pending → RowGood row → ControlGood (with_entry row.high row.low c) pending
with_entry_good c pending row g now =
    let h = both (within entry_hi_mask row.high) (within entry_lo_mask row.low) now.kept in
    with_good (with_register EntryHi row.high c) pending (with_good c pending g EntryHi row.high (record { small = now.high; kept = h.0 })) EntryLo row.low
    (record { small = now.low; kept = h.1 })
