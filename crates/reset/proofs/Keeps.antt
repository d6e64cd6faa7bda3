-- The machine of a reset keeps the rules, with any paper and any journal.
use Prim.Native.Nat.{ℕ, zero, suc, ◌/◌, ◌^◌}
use mathlib.Core.Path.{◌≡◌, refl, ◌∙◌}
use mathlib.Core.Bool.{Bool, true, false}
use mathlib.Core.List.{[], ◌∷◌, ◌++◌}
use native.Mathlib.Omega.{arith}
use lib.ListN.{drop}
use lib.Dec.{leb-zero}
use Rattle.word.specs.Lists.{flat, Below}
use Rattle.word.specs.Map.{bit}
use Rattle.word.proofs.Cond.{and_true}
use Rattle.word.proofs.Lists.{below_append, below_numerals, below_flat}
use Rattle.printer.specs.Rules.{printer_keeps, present_keeps, line_keeps}
use Rattle.state.specs.Layout.{core_words, slot_words, row_words, clock_words, settings_words, printer_words, journal_words, no_disks, words_of, bytes_of, WellTyped}
use Rattle.rules.specs.Rules.{ranges_keep, state_keeps, machine_keeps, good_image}
use Rattle.rules.proofs.Good.{none_kept, encoded_good}
use Rattle.reset.specs.Reset.{fresh_printer, reset_cpu, reset_board, reset_machine}
use Rattle.reset.proofs.Answers.{InRange, in_range}

fresh_keeps : (on : Bool) (delay room : ℕ) → printer_keeps on false delay room (fresh_printer on) ≡ true
unfolding printer_keeps present_keeps
fresh_keeps true delay room = leb-zero room
fresh_keeps false delay room = refl

line_keeps_lem : (scale delay installed room : ℕ) → line_keeps installed delay room (reset_board scale delay installed).line ≡ true
unfolding line_keeps reset_board
line_keeps_lem scale delay installed room =
    let fresh : (k : ℕ) → printer_keeps (bit k installed) false delay room (fresh_printer (bit k installed)) ≡ true =
    λ k. fresh_keeps (bit k installed) delay room in
    and_true
    (and_true (and_true (and_true (and_true (and_true (and_true (fresh 0) (fresh 1)) (fresh 2)) (fresh 3)) (fresh 4)) (fresh 5)) (fresh 6))
    (fresh 7)

-- every word of the machine is a word
printer_small : (on : Bool) → Below (2 ^ 32) (printer_words (fresh_printer on))
printer_small true = below_numerals (1 ∷ 0 ∷ 0 ∷ 0 ∷ 0 ∷ []) refl
printer_small false = below_numerals (0 ∷ 0 ∷ 0 ∷ 0 ∷ 0 ∷ []) refl

module _ (scale delay installed : ℕ) (r : InRange scale delay installed) where
  settings : Below (2 ^ 32) (scale ∷ delay ∷ installed ∷ [])
  settings zero h = omega (arith, r)
  settings (suc zero) h = omega (arith, r)
  settings (suc (suc zero)) h = omega (arith, r)
  settings (suc (suc (suc i))) h = absurd (omega arith)

  small : Below (2 ^ 32) (words_of (reset_machine scale delay installed))
  unfolding words_of reset_machine reset_cpu reset_board
  small =
      let m = reset_machine scale delay installed in
      let front = drop 1 m.cpu.regs ++ (core_words m.cpu.core ++ (flat row_words m.cpu.tlb ++ clock_words m.board.clock)) in
      let printers = flat printer_words m.board.line.printers in
      let last = m.board.line.pending ∷ (journal_words m.journal ++ (slot_words m.cpu.core ++ no_disks)) in
      below_append front (settings_words m.board.settings ++ (printers ++ last)) (below_numerals front refl)
      (below_append (settings_words m.board.settings) (printers ++ last) settings
      (below_append printers last
      (below_flat 8 printer_words (λ (k : ℕ). fresh_printer (bit k installed)) (λ k. printer_small (bit k installed)))
      (below_numerals last refl)))

  pub well_typed : WellTyped (reset_machine scale delay installed)
  unfolding reset_machine reset_cpu reset_board
  well_typed = record { sized = record { regs = refl; tlb = refl; printers = refl }; zero = refl; small = small }

pub machine_keeps_lem : (scale delay installed : ℕ) → ranges_keep scale delay installed ≡ true → (paper journal : ℕ) →
    machine_keeps (reset_machine scale delay installed) paper journal ≡ true
unfolding machine_keeps state_keeps reset_machine reset_cpu reset_board
machine_keeps_lem scale delay installed e paper journal =
    and_true (and_true (and_true (and_true refl e) (line_keeps_lem scale delay installed (paper / 8))) refl) (none_kept (journal / 512))

pub reset_keeps : (scale delay installed : ℕ) → ranges_keep scale delay installed ≡ true → (paper journal : ℕ) →
    good_image (bytes_of (reset_machine scale delay installed)) paper journal ≡ true
reset_keeps scale delay installed e paper journal =
    encoded_good (reset_machine scale delay installed) paper journal (well_typed scale delay installed (in_range scale delay installed e))
    ∙ machine_keeps_lem scale delay installed e paper journal
