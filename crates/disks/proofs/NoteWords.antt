-- The words of eight disks laid down one after the other and read back; and where no disk is busy they are all 0.
use Prim.Native.Nat.{ℕ, zero, suc, ◌+◌, ◌*◌, ◌^◌, ◌≤◌, ◌<◌}
use mathlib.Core.Path.{◌≡◌, refl, sym, ap, ◌∙◌}
use mathlib.Core.Bool.{false}
use mathlib.Core.List.{List, [], ◌∷◌, ◌++◌}
use native.Mathlib.Decide.{dec_lt}
use native.Mathlib.Nat.{add-zero}
use native.Mathlib.Omega.{arith}
use lib.ListN.{length, get_or, replicate}
use lib.Seq.{sets}
use Rattle.word.specs.Lists.{tabulate, flat, joined, Below}
use Rattle.word.proofs.Lists.{sets_append, sets_whole, length_tabulate, get_d_tabulate, tabulate_ext, tabulate_get_d, flat_append, flat_at}
use Rattle.device.specs.Line.{some_of}
use Rattle.device.proofs.Passed.{neither}
use Rattle.disk.specs.declared.Disk.{Disk}
use Rattle.disk.specs.declared.saved.Kept.{Kept}
use Rattle.disk.specs.Tick.{no_disk, is_busy}
use Rattle.disk.specs.Saved.{no_kept}
use Rattle.disk.specs.Words.{four_word, kept_words, Ranged}
use Rattle.word.specs.Little.{from_bytes}
use Rattle.disk.proofs.Given.{idle_kept}
use Rattle.disk.proofs.KeptWords.{words_back, kept_back}
use Rattle.disks.specs.Tick.{Spinning, any_busy}
use Rattle.disks.specs.Saved.{kept_at, note_of, note_words, kept_in, kepts_in}
use Rattle.disks.proofs.Passed.{old, store}

module _ (l l0 l1 l2 l3 l4 l5 l6 l7 : List ℕ) (k0 k1 k2 k3 k4 k5 k6 k7 : Kept) where
  abbrev all : List Kept
  all = k0 ∷ k1 ∷ k2 ∷ k3 ∷ k4 ∷ k5 ∷ k6 ∷ k7 ∷ []

  pub eight_kept : length l ≡ 32 →
      l0 ≡ sets l 0 (kept_words k0) →
      l1 ≡ sets l0 4 (kept_words k1) →
      l2 ≡ sets l1 8 (kept_words k2) →
      l3 ≡ sets l2 12 (kept_words k3) →
      l4 ≡ sets l3 16 (kept_words k4) →
      l5 ≡ sets l4 20 (kept_words k5) →
      l6 ≡ sets l5 24 (kept_words k6) →
      l7 ≡ sets l6 28 (kept_words k7) →
      l7 ≡ flat kept_words all
  eight_kept long e0 e1 e2 e3 e4 e5 e6 e7 =
      let f7 = flat kept_words (k7 ∷ []) in
      let f6 = kept_words k6 ++ f7 in
      let f5 = kept_words k5 ++ f6 in
      let f4 = kept_words k4 ++ f5 in
      let f3 = kept_words k3 ++ f4 in
      let f2 = kept_words k2 ++ f3 in
      let f1 = kept_words k1 ++ f2 in
      let t0 : sets l 0 (flat kept_words all) ≡ sets l0 4 f1 = sets_append (kept_words k0) f1 l 0 ∙ ap (λ (m : List ℕ). sets m 4 f1) (sym e0) in
      let t1 : sets l0 4 f1 ≡ sets l1 8 f2 = sets_append (kept_words k1) f2 l0 4 ∙ ap (λ (m : List ℕ). sets m 8 f2) (sym e1) in
      let t2 : sets l1 8 f2 ≡ sets l2 12 f3 = sets_append (kept_words k2) f3 l1 8 ∙ ap (λ (m : List ℕ). sets m 12 f3) (sym e2) in
      let t3 : sets l2 12 f3 ≡ sets l3 16 f4 = sets_append (kept_words k3) f4 l2 12 ∙ ap (λ (m : List ℕ). sets m 16 f4) (sym e3) in
      let t4 : sets l3 16 f4 ≡ sets l4 20 f5 = sets_append (kept_words k4) f5 l3 16 ∙ ap (λ (m : List ℕ). sets m 20 f5) (sym e4) in
      let t5 : sets l4 20 f5 ≡ sets l5 24 f6 = sets_append (kept_words k5) f6 l4 20 ∙ ap (λ (m : List ℕ). sets m 24 f6) (sym e5) in
      let t6 : sets l5 24 f6 ≡ sets l6 28 f7 = sets_append (kept_words k6) f7 l5 24 ∙ ap (λ (m : List ℕ). sets m 28 f7) (sym e6) in
      e7 ∙ sym (t0 ∙ t1 ∙ t2 ∙ t3 ∙ t4 ∙ t5 ∙ t6) ∙ sets_whole l (flat kept_words all) (sym long)

-- ---- read back

-- what has room in its words
pub note_back : (s : Spinning) → ((n : ℕ) → n < 8 → Ranged (kept_at s n)) → kepts_in (note_words s) ≡ (note_of s).kept
unfolding note_words kepts_in
note_back s room = tabulate_ext 8 (kept_in (note_words s)) (kept_at s) one
  where
    word : (n : ℕ) → n < 8 → (j : ℕ) → j < 4 → get_or (flat kept_words (tabulate 8 (kept_at s))) (4 * n + j) 0 ≡ get_or (kept_words (kept_at s n)) j 0
    word n few j l =
        let inside : n < length (tabulate 8 (kept_at s)) = rw (length_tabulate 8 (kept_at s)) few in
        flat_at 4 kept_words (λ k. refl) (tabulate 8 (kept_at s)) no_kept n j inside l ∙ ap (λ (k : Kept). get_or (kept_words k) j 0) (get_d_tabulate 8 (kept_at s) n no_kept few)

    one : (n : ℕ) → n < 8 → kept_in (flat kept_words (tabulate 8 (kept_at s))) n ≡ kept_at s n
    one n few =
        let first = ap (λ (m : ℕ). get_or (flat kept_words (tabulate 8 (kept_at s))) m 0) (sym (add-zero (4 * n))) ∙ word n few 0 (omega arith) in
        rw (first, word n few 1 (omega arith), word n few 2 (omega arith), word n few 3 (omega arith)) (kept_back (kept_at s n) (room n few))

-- words of 32 bits, read and laid down again
module _ (words : List ℕ) (small : Below (2 ^ 32) words) (All-there : length words ≡ 32) where
  abbrev row : ℕ → List ℕ
  row n = get_or words (4 * n) 0 ∷ get_or words (4 * n + 1) 0 ∷ get_or words (4 * n + 2) 0 ∷ get_or words (4 * n + 3) 0 ∷ []

  rows : (n : ℕ) → n ≤ 8 → flat kept_words (tabulate n (kept_in words)) ≡ joined (tabulate n row)
  rows zero h = refl
  rows (suc n) h =
      let first : 4 * n < length words = omega (arith, All-there) in
      let second : 4 * n + 1 < length words = omega (arith, All-there) in
      let fourth : 4 * n + 3 < length words = omega (arith, All-there) in
      rw (
        flat_append kept_words (tabulate n (kept_in words)) (kept_in words n ∷ []),
        flat_append (λ (group : List ℕ). group) (tabulate n row) (row n ∷ []),
        rows n (omega arith),
        words_back (get_or words (4 * n) 0) (get_or words (4 * n + 1) 0) (get_or words (4 * n + 2) 0) (get_or words (4 * n + 3) 0)
            (small (4 * n) first) (small (4 * n + 1) second) (small (4 * n + 3) fourth),
      )

  in_order : joined (tabulate 8 row) ≡ tabulate 32 (λ (i : ℕ). get_or words i 0)
  in_order = refl

  pub words_again : flat kept_words (kepts_in words) ≡ words
  unfolding kepts_in
  words_again =
      rows 8 (omega arith) ∙ in_order ∙ ap (λ (n : ℕ). tabulate n (λ (i : ℕ). get_or words i 0)) (sym All-there) ∙ tabulate_get_d words 0

-- ---- no disk is busy

idle_of : (n : ℕ) (disks : List Disk) → some_of no_disk is_busy n disks ≡ false → (k : ℕ) → k < n → is_busy (get_or disks k no_disk) ≡ false
unfolding some_of
idle_of zero disks e k h = absurd (omega arith)
idle_of (suc n) disks e k h =
    let g = neither (some_of no_disk is_busy n disks) (is_busy (get_or disks n no_disk)) e in
    elim (dec_lt k n) [
      | yes lower ↦ idle_of n disks g.0 k lower
      | no not_lower ↦ let last : k ≡ n = omega arith in rw last g.1
    ]

-- Where no disk is busy a record keeps nothing of them, so nothing need be computed for it.
pub idle_words : (s : Spinning) → any_busy s.line.disks ≡ false → note_words s ≡ replicate 32 0
unfolding note_words four_word from_bytes
idle_words s e =
    ap (flat kept_words) (tabulate_ext 8 (kept_at s) (λ (n : ℕ). no_kept) (λ n h. idle_kept (old s n) s.ram (store s n) (idle_of 8 s.line.disks e n h)))
