-- CP0 keeps its rules where Random and Cause alone are anew, and the core where CP0, HI and LO, the PC pair or the slot are.
use Prim.Native.Nat.{ℕ, ◌%◌, ◌^◌, ◌<◌}
use mathlib.Core.Path.{◌≡◌, refl}
use mathlib.Core.Bool.{Bool, true, false}
use native.Mathlib.Omega.{arith}
use borrow.Author.Tests.{leb-true, le-leb, eq-eqb}
use lib.Dec.{eqb, leb}
use Rattle.word.specs.Number.{between}
use Rattle.word.proofs.Cond.{both, and_true}
use Rattle.cp0.specs.Random.{field, top_entry, random_of}
use Rattle.cp0.specs.declared.registers.Cp0.{Cp0}
use Rattle.cp0.proofs.Randoms.{InTable, random_stays}
use Rattle.printer.specs.Cause.{shown_of}
use Rattle.state.specs.Layout.{cp0_words, kept_words}
use Rattle.state.specs.Slot.{slot_after}
use Rattle.state.specs.declared.machine.Core.{Core}
use Rattle.rules.specs.Rules.{random_keeps}
use Rattle.step.specs.Apply.{with_hi_lo, with_cp0, with_pc}
use Rattle.proper.specs.Proper.{ControlGood}
use Rattle.proper.proofs.Registers.{parts}
use Rattle.good.proofs.Belows.{each_below, below_each}
use Rattle.good.proofs.Causes.{Steady, steady, shown_word, shown_keeps}
use Rattle.good.proofs.Sound.{CoreSound}

-- ---- Random

pub record RandomGood (random : ℕ) : Type 0 where
  pub word : random < 2 ^ 32
  pub kept : random_keeps random ≡ true

pub random_good : (random : ℕ) → RandomGood random → RandomGood (random_of top_entry random)
random_good random r =
    let h = both (eqb (random % 2 ^ 8) 0) (between 1 top_entry (field random)) r.kept in
    let g = both (leb 1 (field random)) (leb (field random) top_entry) h.1 in
    let was : InTable top_entry (field random) = (leb-true 1 (field random) g.0, leb-true (field random) top_entry g.1) in
    let now : InTable top_entry (field (random_of top_entry random)) = random_stays top_entry random was in
    let next = random_of top_entry random in
    record {
      word = omega arith;
      kept = and_true (eq-eqb (next % 2 ^ 8) 0 (omega arith))
          (and_true (le-leb 1 (field next) now.0) (le-leb (field next) top_entry now.1));
    }

-- ---- CP0

-- the same CP0 but for Random and Cause
abbrev pub lined : ℕ → ℕ → Cp0 → Cp0
lined random cause p =
    record {
      index = p.index;
      random = random;
      entry_hi = p.entry_hi;
      entry_lo = p.entry_lo;
      bad_vaddr = p.bad_vaddr;
      status = p.status;
      cause = cause;
      epc = p.epc;
    }

module _ {p : Cp0} {pending : ℕ} (g : ControlGood p pending) where
  pub cause_steady : Steady p.cause
  cause_steady = steady p.cause pending (g.words 6 (omega arith)) (parts p pending g.kept).cause

  pub random_own : RandomGood p.random
  random_own = record { word = g.words 1 (omega arith); kept = (parts p pending g.kept).random }

  -- IP[6] shows the new map
  pub lined_good : (random next cause : ℕ) → RandomGood random → Steady cause → ControlGood (lined random (shown_of next cause) p) next
  lined_good random next cause r s =
      let k = parts p pending g.kept in
      let old = below_each (cp0_words p) g.words in
      let small = shown_word next s in
      record {
        words = each_below (cp0_words (lined random (shown_of next cause) p)) (omega arith);
        kept = and_true (and_true (and_true (and_true k.status (shown_keeps next s)) k.index) r.kept) k.entry;
      }

-- ---- the core

module _ {c : Core} {pending : ℕ} (s : CoreSound c pending) where
  pub with_cp0_lem : (p : Cp0) (next : ℕ) → ControlGood p next → CoreSound (with_cp0 p c) next
  with_cp0_lem p next g =
      let old = below_each (kept_words c) s.words in
      let new = below_each (cp0_words p) g.words in
      record { words = each_below (kept_words (with_cp0 p c)) (omega arith); kept = g.kept; slot = s.slot }

  pub with_hi_lo_lem : (hi lo : ℕ) → hi < 2 ^ 32 → lo < 2 ^ 32 → CoreSound (with_hi_lo hi lo c) pending
  with_hi_lo_lem hi lo h l =
      let old = below_each (kept_words c) s.words in
      record { words = each_below (kept_words (with_hi_lo hi lo c)) (omega arith); kept = s.kept; slot = s.slot }

  pub with_pc_lem : (pc next : ℕ) → pc < 2 ^ 32 → next < 2 ^ 32 → CoreSound (with_pc pc next c) pending
  with_pc_lem pc next h l =
      let old = below_each (kept_words c) s.words in
      record { words = each_below (kept_words (with_pc pc next c)) (omega arith); kept = s.kept; slot = s.slot }

  pub slot_after_lem : (branched : Bool) → CoreSound (slot_after branched c) pending
  slot_after_lem true =
      let old = below_each (kept_words c) s.words in
      record { words = each_below (kept_words (slot_after true c)) (omega arith); kept = s.kept; slot = refl }
  slot_after_lem false =
      let old = below_each (kept_words c) s.words in
      record { words = each_below (kept_words (slot_after false c)) (omega arith); kept = s.kept; slot = refl }
