-- The rule of Cause part by part, and that it stays kept where the lines of devices stay.
use Prim.Native.Nat.{ℕ, ◌+◌, ◌≤◌, ◌<◌}
use mathlib.Core.Path.{◌≡◌}
use mathlib.Core.Bool.{beq, true, not, ◌&&◌}
use native.Mathlib.Omega.{arith}
use borrow.Author.Tests.{le-leb, leb-true}
use lib.Dec.{eqb, leb}
use Rattle.word.specs.Map.{bit}
use Rattle.word.specs.Mask.{within}
use Rattle.word.proofs.Cond.{both, and_true}
use Rattle.cp0.specs.Entry.{exc_code}
use Rattle.rules.specs.Rules.{ip, cause_keeps}

-- all that Cause's fields lie in
abbrev pub cause_bits : ℕ
cause_bits = 0xB000FF7C

-- the printers' line is 6, and 3, 4, 5 and 7 are no device's
pub record CauseRules (cause pending : ℕ) : Type 0 where
  pub inside : within cause_bits cause ≡ true
  pub code : exc_code cause ≤ 12
  pub printers : beq (ip 6 cause) (not (eqb pending 0)) ≡ true
  pub third : not (ip 3 cause) ≡ true
  pub fourth : not (ip 4 cause) ≡ true
  pub fifth : not (ip 5 cause) ≡ true
  pub seventh : not (ip 7 cause) ≡ true

pub cause_rules : (cause pending : ℕ) → cause_keeps cause pending ≡ true → CauseRules cause pending
cause_rules cause pending was =
    let w = within cause_bits cause in
    let l = leb (exc_code cause) 12 in
    let p = beq (ip 6 cause) (not (eqb pending 0)) in
    let h₇ = both (w && l && p && not (ip 3 cause) && not (ip 4 cause) && not (ip 5 cause)) (not (ip 7 cause)) was in
    let h₅ = both (w && l && p && not (ip 3 cause) && not (ip 4 cause)) (not (ip 5 cause)) h₇.0 in
    let h₄ = both (w && l && p && not (ip 3 cause)) (not (ip 4 cause)) h₅.0 in
    let h₃ = both (w && l && p) (not (ip 3 cause)) h₄.0 in
    let h₆ = both (w && l) p h₃.0 in
    let h₁ = both w l h₆.0 in
    record {
      inside = h₁.0;
      code = leb-true (exc_code cause) 12 h₁.1;
      printers = h₆.1;
      third = h₃.1;
      fourth = h₄.1;
      fifth = h₅.1;
      seventh = h₇.1;
    }

module _ (old new pending : ℕ) (same : (k : ℕ) → 3 ≤ k → k < 8 → bit (8 + k) new ≡ bit (8 + k) old) where
  line_off : (k : ℕ) → 3 ≤ k → k < 8 → not (ip k old) ≡ true → not (ip k new) ≡ true
  line_off k low high off = rw (same k low high) off

  pub cause_moves : cause_keeps old pending ≡ true → within cause_bits new ≡ true → exc_code new ≤ 12 → cause_keeps new pending ≡ true
  cause_moves was inside code =
      let h = cause_rules old pending was in
      let printers : beq (ip 6 new) (not (eqb pending 0)) ≡ true = rw (same 6 (omega arith) (omega arith)) h.printers in
      and_true
      (and_true
      (and_true
      (and_true
      (and_true (and_true inside (le-leb (exc_code new) 12 code)) printers)
      (line_off 3 (omega arith) (omega arith) h.third))
      (line_off 4 (omega arith) (omega arith) h.fourth))
      (line_off 5 (omega arith) (omega arith) h.fifth))
      (line_off 7 (omega arith) (omega arith) h.seventh)
