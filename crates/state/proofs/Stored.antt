-- The layout's lengths, and that its two halves, stored one after the other, are the whole image.
use Prim.Native.Nat.{ℕ, ◌+◌}
use mathlib.Core.Path.{◌≡◌, refl, sym, ap, ◌∙◌}
use mathlib.Core.List.{List, ◌∷◌, ◌++◌, append_assoc}
use native.Mathlib.Omega.{arith}
use lib.ListN.{length, get_or, drop, replicate, length-append, length-drop}
use lib.Seq.{sets, get_or-append-add}
use Rattle.word.specs.Lists.{flat}
use Rattle.word.specs.Big.{word_bytes}
use Rattle.word.proofs.Lists.{length_flat, flat_append, sets_two}
use Rattle.state.specs.declared.machine.Machine.{Machine}
use Rattle.state.specs.Layout.{core_words, row_words, clock_words, settings_words, printer_words, journal_words, slot_words, no_disks, words_of, header, bytes_of, Sized}

-- the words up to the translation table's, and the rest
abbrev front : Machine → List ℕ
front m = drop 1 m.cpu.regs ++ (core_words m.cpu.core ++ flat row_words m.cpu.tlb)

abbrev back : Machine → List ℕ
back m =
    (clock_words m.board.clock ++ settings_words m.board.settings)
    ++ (flat printer_words m.board.line.printers ++ ((m.board.line.pending ∷ (journal_words m.journal ++ slot_words m.cpu.core)) ++ no_disks))

-- but for the disks'
abbrev kept : Machine → List ℕ
kept m =
    (clock_words m.board.clock ++ settings_words m.board.settings)
    ++ (flat printer_words m.board.line.printers ++ (m.board.line.pending ∷ (journal_words m.journal ++ slot_words m.cpu.core)))

back_kept : (m : Machine) → back m ≡ kept m ++ no_disks
back_kept m =
    let clock = clock_words m.board.clock ++ settings_words m.board.settings in
    let printers = flat printer_words m.board.line.printers in
    let last = m.board.line.pending ∷ (journal_words m.journal ++ slot_words m.cpu.core) in
    ap (λ (l : List ℕ). clock ++ l) (sym (append_assoc printers last no_disks)) ∙ sym (append_assoc clock (printers ++ last) no_disks)

halves : (m : Machine) → words_of m ≡ front m ++ back m
unfolding words_of
halves m = rw (append_assoc (drop 1 m.cpu.regs))

module _ (m : Machine) (s : Sized m) where
  length_front : length (front m) ≡ 75
  length_front =
      let rows = length_flat 2 row_words (λ r. refl) m.cpu.tlb in
      simp (length-append, length-drop) (omega (arith, rows, s.regs, s.tlb))

  length_back : length (back m) ≡ 109
  length_back =
      let printers = length_flat 5 printer_words (λ p. refl) m.board.line.printers in
      simp (length-append) (omega (arith, printers, s.printers))

  pub length_words : length (words_of m) ≡ 184
  length_words = rw (halves m, length-append (front m) (back m), length_front, length_back)

  pub length_image : length (bytes_of m) ≡ 741
  unfolding bytes_of
  length_image = omega (arith, length_flat 4 word_bytes (λ w. refl) (words_of m), length_words)

  length_kept : length (kept m) ≡ 51
  length_kept =
      let printers = length_flat 5 printer_words (λ p. refl) m.board.line.printers in
      simp (length-append) (omega (arith, printers, s.printers))

  -- the bytes of the disks' words are 0
  pub disks_zero : (k : ℕ) → get_or (bytes_of m) (509 + k) 0 ≡ get_or (replicate 232 0) k 0
  unfolding bytes_of
  disks_zero k =
      let words = front m ++ kept m in
      let bytes = flat word_bytes words in
      let long : 509 ≡ length (header ++ bytes) = omega (arith, length_flat 4 word_bytes (λ w. refl) words, length-append (front m) (kept m), length_front, length_kept) in
      let whole : header ++ flat word_bytes (words_of m) ≡ (header ++ bytes) ++ replicate 232 0 =
      rw (halves m, back_kept m, sym (append_assoc (front m) (kept m) no_disks), flat_append word_bytes words no_disks) refl in
      ap (λ (l : List ℕ). get_or l (509 + k) 0) whole
      ∙ ap (λ (n : ℕ). get_or ((header ++ bytes) ++ replicate 232 0) (n + k) 0) long
      ∙ get_or-append-add (header ++ bytes) (replicate 232 0) k 0

  -- the front stored at the start, and the back after it
  stored_halves : (b : List ℕ) → length b ≡ 741 →
      sets (sets b 0 (header ++ flat word_bytes (front m))) 305 (flat word_bytes (back m)) ≡ bytes_of m
  unfolding bytes_of
  stored_halves b h =
      let us = header ++ flat word_bytes (front m) in
      let vs = flat word_bytes (back m) in
      let long : length us ≡ 305 = omega (arith, length_flat 4 word_bytes (λ w. refl) (front m), length_front) in
      let whole : us ++ vs ≡ header ++ flat word_bytes (words_of m) = rw (halves m, flat_append word_bytes (front m) (back m)) refl in
      sets_two b us vs 305 long (ap length whole ∙ length_image ∙ sym h) ∙ whole

  -- the same, of the parts that `encode` makes one by one
  pub stored : (b : List ℕ) → length b ≡ 741 → {core rows clock printers last b₁ b₂ : List ℕ} →
      core ≡ core_words m.cpu.core → rows ≡ flat row_words m.cpu.tlb →
      clock ≡ clock_words m.board.clock ++ settings_words m.board.settings →
      printers ≡ flat printer_words m.board.line.printers → last ≡ m.board.line.pending ∷ (journal_words m.journal ++ slot_words m.cpu.core) →
      b₁ ≡ sets b 0 (header ++ flat word_bytes (drop 1 m.cpu.regs ++ (core ++ rows))) →
      b₂ ≡ sets b₁ 305 (flat word_bytes (clock ++ (printers ++ (last ++ no_disks)))) → b₂ ≡ bytes_of m
  stored b h e₁ e₂ e₃ e₄ e₅ e₆ e₇ = e₇ ∙ rw (e₆, e₁, e₂, e₃, e₄, e₅) (stored_halves b h)
