-- The words of a machine part by part, and the machine made of them again: so a step that changes one part shows that part alone.
use Prim.Native.Nat.{ℕ, ◌^◌, ◌<◌}
use mathlib.Core.Path.{refl}
use mathlib.Core.List.{List, [], ◌∷◌, ◌++◌}
use native.Mathlib.Omega.{arith}
use lib.ListN.{drop}
use Rattle.word.specs.Lists.{flat, Below}
use Rattle.word.proofs.Lists.{below_nil, below_cons, below_append, below_numerals}
use Rattle.state.specs.Layout.{core_words, slot_words, kept_words, row_words, clock_words, settings_words, printer_words, journal_words, no_disks, words_of, Sized, HoldsZero, WellTyped}
use Rattle.state.specs.declared.machine.Machine.{Machine}
use Rattle.good.proofs.Belows.{below_left, below_right}

pub record Words (m : Machine) : Type 0 where
  pub regs : Below (2 ^ 32) m.cpu.regs
  pub core : Below (2 ^ 32) (kept_words m.cpu.core)
  pub rows : Below (2 ^ 32) (flat row_words m.cpu.tlb)
  pub clock : Below (2 ^ 32) (clock_words m.board.clock)
  pub settings : Below (2 ^ 32) (settings_words m.board.settings)
  pub printers : Below (2 ^ 32) (flat printer_words m.board.line.printers)
  pub pending : m.board.line.pending < 2 ^ 32
  pub journal : Below (2 ^ 32) (journal_words m.journal)

-- register 0, which the image leaves out, is 0
with_zero : (l : List ℕ) → HoldsZero l → Below (2 ^ 32) (drop 1 l) → Below (2 ^ 32) l
with_zero [] z h = below_nil (2 ^ 32)
with_zero (x ∷ l) z h = below_cons l (omega arith) h

without_zero : (l : List ℕ) → Below (2 ^ 32) l → Below (2 ^ 32) (drop 1 l)
without_zero [] h = below_nil (2 ^ 32)
without_zero (x ∷ l) h = below_right (x ∷ []) l h

module _ (m : Machine) where
  abbrev regs : List ℕ
  regs = drop 1 m.cpu.regs

  abbrev from_slot : List ℕ
  from_slot = slot_words m.cpu.core ++ no_disks

  abbrev from_journal : List ℕ
  from_journal = journal_words m.journal ++ from_slot

  abbrev last : List ℕ
  last = m.board.line.pending ∷ from_journal

  abbrev from_printers : List ℕ
  from_printers = flat printer_words m.board.line.printers ++ last

  abbrev from_settings : List ℕ
  from_settings = settings_words m.board.settings ++ from_printers

  abbrev from_clock : List ℕ
  from_clock = clock_words m.board.clock ++ from_settings

  abbrev from_rows : List ℕ
  from_rows = flat row_words m.cpu.tlb ++ from_clock

  abbrev from_core : List ℕ
  from_core = core_words m.cpu.core ++ from_rows

  pub words : WellTyped m → Words m
  unfolding words_of
  words t =
      let h₁ = below_right regs from_core t.small in
      let h₂ = below_right (core_words m.cpu.core) from_rows h₁ in
      let h₃ = below_right (flat row_words m.cpu.tlb) from_clock h₂ in
      let h₄ = below_right (clock_words m.board.clock) from_settings h₃ in
      let h₅ = below_right (settings_words m.board.settings) from_printers h₄ in
      let h₆ = below_right (flat printer_words m.board.line.printers) last h₅ in
      let h₇ = below_right (m.board.line.pending ∷ []) from_journal h₆ in
      record {
        regs = with_zero m.cpu.regs t.zero (below_left regs from_core t.small);
        core =
            below_append (core_words m.cpu.core) (slot_words m.cpu.core) (below_left (core_words m.cpu.core) from_rows h₁)
            (below_left (slot_words m.cpu.core) no_disks (below_right (journal_words m.journal) from_slot h₇));
        rows = below_left (flat row_words m.cpu.tlb) from_clock h₂;
        clock = below_left (clock_words m.board.clock) from_settings h₃;
        settings = below_left (settings_words m.board.settings) from_printers h₄;
        printers = below_left (flat printer_words m.board.line.printers) last h₅;
        pending = h₆ 0 (omega arith);
        journal = below_left (journal_words m.journal) from_slot h₇;
      }

  pub well_typed : Sized m → HoldsZero m.cpu.regs → Words m → WellTyped m
  unfolding words_of
  well_typed s z w = record {
    sized = s;
    zero = z;
    small =
        below_append regs from_core (without_zero m.cpu.regs w.regs)
        (below_append (core_words m.cpu.core) from_rows (below_left (core_words m.cpu.core) (slot_words m.cpu.core) w.core)
        (below_append (flat row_words m.cpu.tlb) from_clock w.rows
        (below_append (clock_words m.board.clock) from_settings w.clock
        (below_append (settings_words m.board.settings) from_printers w.settings
        (below_append (flat printer_words m.board.line.printers) last w.printers
        (below_cons from_journal w.pending
        (below_append (journal_words m.journal) from_slot w.journal
        (below_append (slot_words m.cpu.core) no_disks (below_right (core_words m.cpu.core) (slot_words m.cpu.core) w.core)
        (below_numerals no_disks refl)))))))));
  }
