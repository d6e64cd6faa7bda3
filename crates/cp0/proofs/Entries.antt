-- What holds of CP0 after exception entry.
use Prim.Native.Nat.{ℕ, ◌+◌, ◌*◌, ◌/◌, ◌%◌, ◌^◌, ◌<◌}
use mathlib.Core.Path.{◌≡◌, refl, ◌∙◌}
use mathlib.Core.Bool.{Bool, true, false}
use native.Mathlib.Nat.{mod-lt}
use native.Mathlib.Omega.{arith}
use lib.Dec.{eqb, lit<}
use Prim.{tt}
use Rattle.word.specs.Map.{bit}
use Rattle.word.specs.Mask.{overlaid_of}
use Rattle.word.specs.Number.{between}
use Rattle.word.proofs.Cond.{picked}
use Rattle.word.proofs.Masks.{field_taken, field_kept, overlaid_within}
use Rattle.word.proofs.Within.{BitsIn}
use Rattle.cp0.specs.declared.registers.Cp0.{Cp0}
use Rattle.cp0.specs.declared.entry.Exception.{Exception}
use Rattle.cp0.specs.Privilege.{mode_of}
use Rattle.cp0.specs.Interrupt.{ip, im, interrupts_of}
use Rattle.cp0.specs.Stack.{pushed_stack}
use Rattle.cp0.specs.Word.{modes_of, middle, vm_of, pushed_of}
use Rattle.cp0.specs.Entry.{page_mask, entry_mask, exc_code, bd_of, ce_of, fields_of, cause_of, entry_hi_of, entered_of}
use Rattle.cp0.specs.Written.{status_mask}
use Rattle.cp0.proofs.StatusBits.{pushed_within}
use Rattle.cp0.proofs.Parts.{modes_of_word, middle_of_word, vm_of_word}

bit_off : (k word : ℕ) → word / 2 ^ k % 2 ≡ 0 → bit k word ≡ false
bit_off k word none = rw none

bit_on : (k word : ℕ) → word / 2 ^ k % 2 ≡ 1 → bit k word ≡ true
bit_on k word one = rw one

-- BD is above all that stands beside it
bd_bit : (slot : Bool) (word rest : ℕ) → rest < 2 ^ 31 → word / 2 ^ 31 % 2 ^ 1 ≡ (bd_of slot + rest) / 2 ^ 31 % 2 ^ 1 → bit 31 word ≡ slot
bd_bit true word rest small same = bit_on 31 word (omega arith)
bd_bit false word rest small same = bit_off 31 word (omega arith)

below_bd : (slot : Bool) (rest : ℕ) → rest < 2 ^ 31 → (bd_of slot + rest) % 2 ^ 31 ≡ rest
below_bd true rest small = omega arith
below_bd false rest small = omega arith

module _ (e : Exception) (slot : Bool) (epc : ℕ) (c : Cp0) where
  abbrev after : Cp0
  after = entered_of e slot epc c

  pub others_kept : (after.index ≡ c.index) × (after.random ≡ c.random) × (after.entry_lo ≡ c.entry_lo)
  unfolding entered_of
  others_kept = (refl, refl, refl)

  -- ---- Cause
  pub ip_kept : ip after.cause ≡ ip c.cause
  unfolding entered_of cause_of overlaid_of
  ip_kept = field_kept 32 entry_mask c.cause (fields_of e slot) 8 8 refl refl

  abbrev rest : ℕ
  rest = ce_of e * 2 ^ 28 + e.code % 2 ^ 5 * 2 ^ 2

  ce_small : ce_of e < 2 ^ 2
  ce_small = picked (λ x. x < 2 ^ 2) (eqb e.code 11) _ _ (λ on. mod-lt e.coprocessor (omega arith)) (λ off. omega arith)

  rest_small : rest < 2 ^ 31
  rest_small = let small = ce_small in omega arith

  pub code_told : e.code < 2 ^ 5 → exc_code after.cause ≡ e.code
  unfolding entered_of cause_of overlaid_of
  code_told small =
      let few = ce_small in
      let low = below_bd slot rest rest_small in
      field_taken 32 entry_mask c.cause (fields_of e slot) 2 5 refl refl ∙ omega arith

  pub ce_told : after.cause / 2 ^ 28 % 2 ^ 2 ≡ ce_of e
  unfolding entered_of cause_of overlaid_of
  ce_told =
      let small = ce_small in
      let low = below_bd slot rest rest_small in
      field_taken 32 entry_mask c.cause (fields_of e slot) 28 2 refl refl ∙ omega arith

  -- document 02, L2: BD is 1 exactly in a slot
  pub bd_told : bit 31 after.cause ≡ slot
  unfolding entered_of cause_of overlaid_of
  bd_told = bd_bit slot after.cause rest rest_small (field_taken 32 entry_mask c.cause (fields_of e slot) 31 1 refl refl)

  -- ---- Status
  modes : modes_of after.status ≡ pushed_stack 4 (modes_of c.status)
  unfolding entered_of pushed_of
  modes = modes_of_word _ _ _ _ (omega arith) (omega arith) (omega arith)

  vm : vm_of after.status ≡ pushed_stack 2 (vm_of c.status)
  unfolding entered_of pushed_of
  vm = vm_of_word _ _ _ _ (omega arith) (omega arith) (omega arith)

  -- bits 6-23
  pub middle_kept : middle after.status ≡ middle c.status
  unfolding entered_of pushed_of
  middle_kept = middle_of_word _ _ _ _ (omega arith) (omega arith) (omega arith)

  pub im_kept : im after.status ≡ im c.status
  im_kept = let same = middle_kept in omega arith

  -- kernel mode, without translation
  pub kernel : mode_of after.status ≡ record { user = false; vm = false }
  kernel =
      let m = modes in
      let v = vm in
      let user : bit 1 after.status ≡ false = bit_off 1 after.status (omega arith) in
      let translated : bit 24 after.status ≡ false = bit_off 24 after.status (omega arith) in
      rw (user, translated)

  pub no_interrupt : interrupts_of after.status after.cause ≡ false
  no_interrupt =
      let m = modes in
      let off : bit 0 after.status ≡ false = bit_off 0 after.status (omega arith) in
      rw off

  -- ---- EntryHi
  pub low_kept : after.entry_hi % 2 ^ 12 ≡ c.entry_hi % 2 ^ 12
  unfolding entered_of entry_hi_of overlaid_of
  low_kept =
      picked (λ x. x % 2 ^ 12 ≡ c.entry_hi % 2 ^ 12) (between 1 3 e.code) _ _ (λ on. omega (arith, field_kept 32 page_mask c.entry_hi e.address 0 12 refl refl)) (λ off. refl)

  pub page_loaded : between 1 3 e.code ≡ true → after.entry_hi / 2 ^ 12 % 2 ^ 20 ≡ e.address / 2 ^ 12 % 2 ^ 20
  unfolding entered_of entry_hi_of overlaid_of
  page_loaded on = rw on (field_taken 32 page_mask c.entry_hi e.address 12 20 refl refl)

  -- ---- the rules' masks
  pub status_within : BitsIn 32 status_mask c.status → BitsIn 32 status_mask after.status
  unfolding entered_of
  status_within within = pushed_within (record { word = c.status }) within

  pub cause_within : (m : ℕ) → BitsIn 32 m c.cause → BitsIn 32 m entry_mask → BitsIn 32 m after.cause
  unfolding entered_of cause_of overlaid_of
  cause_within m within fields = overlaid_within 32 entry_mask c.cause (fields_of e slot) (lit< tt) m within fields

  pub entry_hi_within : (m : ℕ) → BitsIn 32 m c.entry_hi → BitsIn 32 m page_mask → BitsIn 32 m after.entry_hi
  unfolding entered_of entry_hi_of overlaid_of
  entry_hi_within m within page =
      picked (BitsIn 32 m) (between 1 3 e.code) _ _ (λ on. overlaid_within 32 page_mask c.entry_hi e.address (lit< tt) m within page) (λ off. within)
