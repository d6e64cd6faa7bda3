-- Cause keeps its rules where IP[2] is turned on or off, and IP[6] then shows the pending map: what the tick and a store on the bus do to it.
use Prim.{tt}
use Prim.Native.Nat.{ℕ, ◌/◌, ◌%◌, ◌^◌, ◌<◌}
use mathlib.Core.Path.{◌≡◌, refl, sym, ◌∙◌}
use mathlib.Core.Logic.{◌≢◌}
use mathlib.Core.Bool.{Bool, true, false, not, cond, beq}
use native.Mathlib.Decide.{ℕ_discrete}
use native.Mathlib.Omega.{arith}
use borrow.Author.Tests.{not-true, le-leb}
use lib.Bits.{bit_xor, xor_shr, xor_mod, xor_zero_r}
use lib.Dec.{eqb, leb, lit<}
use Rattle.word.specs.Map.{bit, with_bit}
use Rattle.word.proofs.Cond.{and_true}
use Rattle.word.proofs.Maps.{bit_told, bit_other, with_small}
use Rattle.word.proofs.Within.{BitsIn}
use Rattle.cp0.specs.Entry.{exc_code}
use Rattle.cp0.specs.Interrupt.{with_line}
use Rattle.printer.specs.Cause.{shown_of}
use Rattle.rules.specs.Rules.{ip, cause_keeps}
use Rattle.rules.proofs.Masks.{within_bits, bits_within}
use Rattle.proper.proofs.Causes.{cause_bits, cause_rules}

-- all that the rules say of Cause but of IP[6]
pub record Steady (cause : ℕ) : Type 0 where
  pub word : cause < 2 ^ 32
  pub masked : BitsIn 32 cause_bits cause
  pub code : leb (exc_code cause) 12 ≡ true
  pub off₃ : bit 11 cause ≡ false
  pub off₄ : bit 12 cause ≡ false
  pub off₅ : bit 13 cause ≡ false
  pub off₇ : bit 15 cause ≡ false

pub steady : (cause pending : ℕ) → cause < 2 ^ 32 → cause_keeps cause pending ≡ true → Steady cause
steady cause pending word e =
    let h = cause_rules cause pending e in
    record {
      word = word;
      masked = within_bits cause_bits cause (lit< tt) h.inside;
      code = le-leb (exc_code cause) 12 h.code;
      off₃ = not-true (ip 3 cause) h.third;
      off₄ = not-true (ip 4 cause) h.fourth;
      off₅ = not-true (ip 5 cause) h.fifth;
      off₇ = not-true (ip 7 cause) h.seventh;
    }

-- a bit outside ExcCode leaves it
code_kept : (n : ℕ) (on : Bool) (cause : ℕ) → 2 ^ n / 2 ^ 2 % 2 ^ 5 ≡ 0 → exc_code (with_bit n on cause) ≡ exc_code cause
unfolding with_bit
code_kept n on cause outside = go (beq (bit n cause) on)
  where
    go : (same : Bool) → exc_code (cond same cause (bit_xor cause (2 ^ n))) ≡ exc_code cause
    go true = refl
    go false = rw (xor_shr cause (2 ^ n) 2, xor_mod (cause / 2 ^ 2) (2 ^ n / 2 ^ 2) 5, outside, xor_zero_r (cause / 2 ^ 2 % 2 ^ 5))

-- one bit of the mask anew, and none of IP[3], [4], [5], [7]
bit_steady : (n : ℕ) (on : Bool) {cause : ℕ} → n < 32 → bit n cause_bits ≡ true → 2 ^ n / 2 ^ 2 % 2 ^ 5 ≡ 0 →
    11 ≢ n → 12 ≢ n → 13 ≢ n → 15 ≢ n → Steady cause → Steady (with_bit n on cause)
bit_steady n on {cause} low inside outside a₃ a₄ a₅ a₇ s = record {
  word = with_small n 32 on cause low s.word;
  masked = λ k h is. by k h is (ℕ_discrete k n);
  code = rw (code_kept n on cause outside) s.code;
  off₃ = bit_other n 11 on cause a₃ ∙ s.off₃;
  off₄ = bit_other n 12 on cause a₄ ∙ s.off₄;
  off₅ = bit_other n 13 on cause a₅ ∙ s.off₅;
  off₇ = bit_other n 15 on cause a₇ ∙ s.off₇;
}
  where
    by : (k : ℕ) → k < 32 → bit k (with_bit n on cause) ≡ true → Dec (k ≡ n) → bit k cause_bits ≡ true
    by k h is (yes e) = rw e inside
    by k h is (no apart) = s.masked k h (sym (bit_other n k on cause apart) ∙ is)

-- the timer's line
pub timer_steady : (on : Bool) {cause : ℕ} → Steady cause → Steady (with_line 2 on cause)
timer_steady on s =
    bit_steady 10 on (lit< tt) refl refl (λ e. omega arith) (λ e. omega arith) (λ e. omega arith) (λ e. omega arith) s

-- the printers' line
shown_steady : (pending : ℕ) {cause : ℕ} → Steady cause → Steady (shown_of pending cause)
shown_steady pending s =
    bit_steady 14 (not (eqb pending 0)) (lit< tt) refl refl (λ e. omega arith) (λ e. omega arith) (λ e. omega arith) (λ e. omega arith) s

same : (b : Bool) → beq b b ≡ true
same true = refl
same false = refl

pub shown_word : (pending : ℕ) {cause : ℕ} → Steady cause → shown_of pending cause < 2 ^ 32
shown_word pending s = (shown_steady pending s).word

pub shown_keeps : (pending : ℕ) {cause : ℕ} → Steady cause → cause_keeps (shown_of pending cause) pending ≡ true
shown_keeps pending {cause} s =
    let t = shown_steady pending s in
    let told : bit 14 (shown_of pending cause) ≡ not (eqb pending 0) = bit_told 14 (not (eqb pending 0)) cause in
    and_true
    (and_true
    (and_true
    (and_true
    (and_true (and_true (bits_within cause_bits (shown_of pending cause) (lit< tt) t.word t.masked) t.code)
    (rw told (same (not (eqb pending 0)))))
    (rw t.off₃))
    (rw t.off₄))
    (rw t.off₅))
    (rw t.off₇)
