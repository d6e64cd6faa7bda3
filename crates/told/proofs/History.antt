-- OVER THE STEPS THAT WERE RUN: after any runs and take-backs from a reset the answers tell what the machine's own steps did.
use Prim.Native.Nat.{ℕ, suc, ◌-◌, ◌%◌, ◌^◌, ◌<◌}
use native.Mathlib.Omega.{arith}
use mathlib.Core.Path.{◌≡◌, sym, ap, subst, ◌∙◌}
use mathlib.Core.Bool.{true}
use mathlib.Core.List.{List, map}
use lib.ListN.{length}
use Rattle.word.specs.Lists.{Below}
use Rattle.ring.specs.Machine.{iterate}
use Rattle.ring.specs.Run.{Config}
use Rattle.ring.proofs.History.{Holds, iterate_good}
use Rattle.journal.specs.Journal.{slots_of}
use Rattle.record.specs.declared.Record.{Record}
use Rattle.record.specs.declared.Saved.{Saved}
use Rattle.record.specs.declared.Saved.TheVariants.{Nothing, Register, TlbRow, RamWord}
use Rattle.record.specs.Layout.{saved_words, record_bytes}
use Rattle.step.specs.World.{World, Roms}
use Rattle.step.specs.Step.{step_of}
use Rattle.step.specs.Note.{note_of}
use Rattle.good.proofs.Lengths.{step_lengths}
use Rattle.undo.specs.Undo.{undo_of}
use Rattle.undo.specs.Fit.{ram_place_fits}
use Rattle.restored.proofs.Notes.{saved_good, recorded}
use Rattle.restored.proofs.Undoes.{undo_step}
use Rattle.marks.specs.Index.{distance_in}
use Rattle.run.specs.Run.{forward}
use Rattle.back.specs.Back.{both}
use Rattle.back.specs.Allowed.{Allowed}
use Rattle.back.proofs.Law.{laws}
use Rattle.seek.specs.OnHand.{kth_of, held_of}
use Rattle.seek.specs.Latest.{word_before, scan}
use Rattle.seek.specs.Pcs.{newest, oldest}
use Rattle.seek.specs.Seek.{has_word, writes_in, writes_of, pc_of, last_change_of, newest_at_of, oldest_at_of}
use Rattle.std.specs.Prelude.{Option}
use Rattle.seek.specs.declared.Change.{Change}
use Rattle.told.specs.Told.{word_at, pc_at, Tells, pcs_ago}
use Rattle.told.proofs.Tells.{aligned, change_held, newest_held, oldest_held, scan_tells, scan_only, pcs_are}
use Rattle.told.proofs.Word.{Small, word_undone}

words_small : (s : Saved) → Below (2 ^ 32) (saved_words s) → Small s
words_small Nothing h = tt
words_small (Register n old) h = tt
words_small (TlbRow i row) h = tt
words_small (RamWord place old distance) h = h 2 (omega arith)

-- ---- one step

module _ (distance : ℕ) (roms : Roms) (w : World) (a : Allowed roms w) where
  -- its record says the word before it, from the word after it
  step_says : (place : ℕ) → place % 4 ≡ 0 → word_at w place ≡ word_before place (writes_of (record_bytes (note_of distance roms w))) (word_at (step_of roms w) place)
  unfolding undo_of
  step_says place even =
      let kept = saved_good distance roms w a.good a.whole in
      let s = (note_of distance roms w).saved in
      let same : length (step_of roms w).ram ≡ length w.ram = (step_lengths roms w a.whole (omega (arith, a.good.typed.sized.tlb))).ram in
      ap (λ (u : World). word_at u place) (sym (undo_step distance roms w a.good a.whole))
      ∙ word_undone s (step_of roms w).ram place kept.ranged (ap (ram_place_fits s) same ∙ kept.place) (words_small s kept.words) even
      ∙ ap (λ (r : Record). word_before place (writes_in r.saved) (word_at (step_of roms w) place)) (sym (recorded distance roms w a.good a.whole))

  -- and the PC that it was made at
  step_pc : pc_at w ≡ pc_of (record_bytes (note_of distance roms w))
  unfolding note_of
  step_pc = ap (λ (r : Record). r.core.pc) (sym (recorded distance roms w a.good a.whole))

-- ---- m steps from w₀, of which the ring holds those on hand

module _ (roms : Roms) (execution : Below 256 roms.execution) (bootstrap : Below 256 roms.bootstrap) (w₀ : World) (a : Allowed roms w₀)
    (total m : ℕ) (Beside : ℕ → World → List (List ℕ) → List ℕ → Type 0) (c : Config (forward roms))
    (h : Holds (both roms) w₀ total Beside (slots_of c.ring.bytes) m c) where
  -- the state k steps ago
  abbrev pub ago : ℕ → World
  ago k = iterate (forward roms) (m - k) w₀

  allowed : (k : ℕ) → Allowed roms (ago k)
  allowed k = iterate_good (both roms) w₀ total (laws roms execution bootstrap) a (m - k)

  -- the step that record i is of
  one_step : (i : ℕ) → i < c.ring.hand → step_of roms (ago (suc i)) ≡ ago i
  one_step i l =
      let e : suc (m - suc i) ≡ m - i = omega (arith, h.past) in
      ap (λ (j : ℕ). iterate (forward roms) j w₀) e

  now : c.state ≡ ago 0
  now = let e : m ≡ m - 0 = omega arith in h.state ∙ ap (λ (j : ℕ). iterate (forward roms) j w₀) e

  module _ (place : ℕ) (has : has_word c.state.ram place ≡ true) where
    says : (i : ℕ) → i < c.ring.hand → word_at (ago (suc i)) place ≡ word_before place (writes_of (kth_of c.ring.bytes c.ring.next (suc i))) (word_at (ago i) place)
    says i l =
        step_says (distance_in (h.records i l).0) roms (ago (suc i)) (allowed (suc i)) place (aligned c.state.ram place has)
        ∙ ap (λ (slot : List ℕ). word_before place (writes_of slot) (word_at (step_of roms (ago (suc i))) place)) (sym (h.records i l).1)
        ∙ ap (λ (u : World). word_before place (writes_of (kth_of c.ring.bytes c.ring.next (suc i))) (word_at u place)) (one_step i l)

    scanned : scan place (word_at (ago 0) place) 0 (map writes_of (held_of c.ring.bytes c.ring.hand c.ring.next))
        ≡ last_change_of c.state.ram c.ring.bytes c.ring.hand c.ring.next place
    scanned =
        ap (λ (u : World). scan place (word_at u place) 0 (map writes_of (held_of c.ring.bytes c.ring.hand c.ring.next))) (sym now)
        ∙ change_held c.ring.bytes c.ring.hand c.ring.next h.sound c.state.ram place has

    -- THE LAW of last_change over the steps, and that no other answer keeps it
    pub holds_tells : Tells ago c.ring.hand place (last_change_of c.state.ram c.ring.bytes c.ring.hand c.ring.next place)
    holds_tells =
        subst (Tells ago c.ring.hand place) scanned (scan_tells c.ring.bytes c.ring.hand c.ring.next ago place says)

    pub holds_only : (r : Option Change) → Tells ago c.ring.hand place r →
        r ≡ last_change_of c.state.ram c.ring.bytes c.ring.hand c.ring.next place
    holds_only r told = scan_only c.ring.bytes c.ring.hand c.ring.next ago place says r told ∙ scanned

  pcs : map pc_of (held_of c.ring.bytes c.ring.hand c.ring.next) ≡ pcs_ago ago c.ring.hand
  pcs =
      pcs_are c.ring.bytes c.ring.hand c.ring.next ago
      (λ i l. step_pc (distance_in (h.records i l).0) roms (ago (suc i)) (allowed (suc i)) ∙ ap pc_of (sym (h.records i l).1))

  -- THE LAWS of newest_at and oldest_at over the steps
  pub holds_newest : (pc : ℕ) → newest_at_of c.ring.bytes c.ring.hand c.ring.next pc ≡ newest pc 0 (pcs_ago ago c.ring.hand)
  holds_newest pc = newest_held c.ring.bytes c.ring.hand c.ring.next h.sound pc ∙ ap (newest pc 0) pcs

  pub holds_oldest : (pc : ℕ) → oldest_at_of c.ring.bytes c.ring.hand c.ring.next pc ≡ oldest pc (pcs_ago ago c.ring.hand) c.ring.hand
  holds_oldest pc =
      oldest_held c.ring.bytes c.ring.hand c.ring.next h.sound pc
      ∙ ap (λ (l : List ℕ). oldest pc l c.ring.hand) pcs
