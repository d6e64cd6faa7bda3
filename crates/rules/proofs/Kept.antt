-- The rules of a state one by one, and the test made of them again: what a step that keeps each of them needs.
use Prim.Native.Nat.{ℕ, ◌/◌, ◌<◌}
use mathlib.Core.Path.{◌≡◌}
use mathlib.Core.Bool.{true, ◌&&◌}
use lib.ListN.{length}
use Rattle.word.proofs.Cond.{both, and_true}
use Rattle.printer.specs.Rules.{Keeps, line_keeps}
use Rattle.printer.proofs.Each.{all_hold, each_holds}
use Rattle.printer.proofs.LineKeeps.{tested, kept_tests}
use Rattle.state.specs.declared.machine.Machine.{Machine}
use Rattle.rules.specs.Rules.{cp0_keeps, row_keeps, tlb_keeps, ranges_keep, slot_keeps, state_keeps}

pub record Kept (m : Machine) (paper : ℕ) : Type 0 where
  pub control : cp0_keeps m.cpu.core.cp0 m.board.line.pending ≡ true
  pub rows : (i : ℕ) → i < 16 → row_keeps m.cpu.tlb i ≡ true
  pub ranges : ranges_keep m.board.settings.scale m.board.settings.delay m.board.settings.installed ≡ true
  pub line : Keeps m.board.settings.installed m.board.settings.delay (paper / 8) m.board.line
  pub slot : slot_keeps m.cpu.core.slot m.cpu.core.branch ≡ true

module _ (m : Machine) (paper : ℕ) where
  pub kept : length m.board.line.printers ≡ 8 → state_keeps m paper ≡ true → Kept m paper
  unfolding state_keeps
  kept eight e =
      let s = m.board.settings in
      let control = cp0_keeps m.cpu.core.cp0 m.board.line.pending in
      let ranges = ranges_keep s.scale s.delay s.installed in
      let line = line_keeps s.installed s.delay (paper / 8) m.board.line in
      let h = both (control && tlb_keeps m.cpu.tlb && ranges && line) (slot_keeps m.cpu.core.slot m.cpu.core.branch) e in
      let h₁ = both (control && tlb_keeps m.cpu.tlb && ranges) line h.0 in
      let h₂ = both (control && tlb_keeps m.cpu.tlb) ranges h₁.0 in
      let h₃ = both control (tlb_keeps m.cpu.tlb) h₂.0 in
      record {
        control = h₃.0;
        rows = each_holds 16 (row_keeps m.cpu.tlb) h₃.1;
        ranges = h₂.1;
        line = tested s.installed s.delay (paper / 8) m.board.line eight h₁.1;
        slot = h.1;
      }

  pub kept_keeps : Kept m paper → state_keeps m paper ≡ true
  unfolding state_keeps
  kept_keeps k =
      let s = m.board.settings in
      and_true
      (and_true (and_true (and_true k.control (all_hold 16 (row_keeps m.cpu.tlb) k.rows)) k.ranges)
      (kept_tests s.installed s.delay (paper / 8) m.board.line k.line))
      k.slot
