-- What a step overwrites, stored later: over a slot that is begun, its words give the bytes of the record with that saved. Till then the slot's own stay.
use Prim.Native.Nat.{ℕ, ◌+◌}
use mathlib.Core.Path.{◌≡◌, refl, sym, ap, ◌∙◌}
use mathlib.Core.List.{List, ◌++◌, append_assoc}
use native.Mathlib.Omega.{arith}
use lib.ListN.{length, take, length-append}
use lib.Seq.{sets, drop_at, drop-drop}
use Rattle.word.specs.Lists.{flat}
use Rattle.word.specs.Little.{to_bytes, from_bytes}
use Rattle.word.proofs.Lists.{flat_append, length_flat, sets_right, sets_whole}
use Rattle.memory.specs.Memory.{load_at}
use Rattle.state.specs.Layout.{kept_words, printer_words}
use Rattle.record.specs.declared.Record.{Record}
use Rattle.record.specs.declared.Saved.{Saved}
use Rattle.record.specs.Layout.{small_words, saved_words, unused, layout_of, record_bytes, saved_at, record_at, record_of, behind_in, laid_of, overwritten_words, begun_in}
use Rattle.record.proofs.Laid.{length_behind_in}
use Rattle.record.proofs.Stored.{length_words, length_saved}

-- ---- what a slot saves

-- a word from the saved ones on
word_in : (l : List ℕ) (j : ℕ) → load_at 4 l (236 + j) ≡ load_at 4 (behind_in l) j
unfolding load_at
word_in l j = ap (λ (m : List ℕ). from_bytes (take 4 m)) (sym (drop-drop j 236 l))

saved_from : (l : List ℕ) →
    (record_of l).saved ≡ saved_at (load_at 4 (behind_in l) 0) (load_at 4 (behind_in l) 4) (load_at 4 (behind_in l) 8) (load_at 4 (behind_in l) 12)
unfolding record_of record_at
saved_from l = rw (sym (word_in l 0), sym (word_in l 4), sym (word_in l 8), sym (word_in l 12))

-- ---- a record's bytes

-- the words before the saved ones
abbrev found : Record → List ℕ
found r = kept_words r.core ++ (small_words r.timer r.pending r.paper.mask r.paper.bytes ++ flat printer_words r.printers)

two_parts : (r : Record) → record_bytes r ≡ flat (to_bytes 4) (found r) ++ flat (to_bytes 4) (overwritten_words r.saved)
unfolding record_bytes layout_of
two_parts r =
    let core = kept_words r.core in
    let small = small_words r.timer r.pending r.paper.mask r.paper.bytes in
    let printers = flat printer_words r.printers in
    let last = overwritten_words r.saved in
    ap (flat (to_bytes 4)) (ap (λ (l : List ℕ). core ++ l) (sym (append_assoc small printers last)) ∙ sym (append_assoc core (small ++ printers) last))
    ∙ flat_append (to_bytes 4) (found r) last

pub length_overwritten : (s : Saved) → length (flat (to_bytes 4) (overwritten_words s)) ≡ 276
length_overwritten s = omega (arith, length_words (overwritten_words s), length-append (saved_words s) unused, length_saved s)

length_found : (r : Record) → length r.printers ≡ 8 → length (flat (to_bytes 4) (found r)) ≡ 236
length_found r eight =
    let small = small_words r.timer r.pending r.paper.mask r.paper.bytes in
    let printers = flat printer_words r.printers in
    omega (
      arith,
      length_words (found r),
      length-append (kept_words r.core) (small ++ printers),
      length-append small printers,
      length_flat 5 printer_words (λ p. refl) r.printers,
      eight,
    )

module _ (r : Record) (slot : List ℕ) (eight : length r.printers ≡ 8) where
  -- what is begun leaves what the slot saved
  bytes_stay : behind_in (begun_in r slot) ≡ behind_in slot
  unfolding laid_of
  bytes_stay = drop_at (flat (to_bytes 4) (found r)) (behind_in slot) 236 (length_found r eight)

  pub saved_begun : (record_of (begun_in r slot)).saved ≡ (record_of slot).saved
  saved_begun =
      saved_from (begun_in r slot)
      ∙ ap (λ (l : List ℕ). saved_at (load_at 4 l 0) (load_at 4 l 4) (load_at 4 l 8) (load_at 4 l 12)) bytes_stay
      ∙ sym (saved_from slot)

  module _ (long : length slot ≡ 512) where
    pub length_begun : length (begun_in r slot) ≡ 512
    unfolding laid_of
    length_begun = omega (arith, length-append (flat (to_bytes 4) (found r)) (behind_in slot), length_found r eight, length_behind_in slot long)

    -- and what is overwritten then makes it the record
    pub saved_later : (s : Saved) → sets (begun_in r slot) 236 (flat (to_bytes 4) (overwritten_words s))
        ≡ record_bytes (record { core = r.core; timer = r.timer; pending = r.pending; paper = r.paper; saved = s; printers = r.printers })
    unfolding laid_of
    saved_later s =
        let front = flat (to_bytes 4) (found r) in
        let new = flat (to_bytes 4) (overwritten_words s) in
        let at : 236 ≡ length front + 0 = omega (arith, length_found r eight) in
        ap (λ (n : ℕ). sets (front ++ behind_in slot) n new) at
        ∙ sets_right front (behind_in slot) new 0
        ∙ ap (λ (l : List ℕ). front ++ l) (sets_whole (behind_in slot) new (length_overwritten s ∙ sym (length_behind_in slot long)))
        ∙ sym (two_parts (record { core = r.core; timer = r.timer; pending = r.pending; paper = r.paper; saved = s; printers = r.printers }))
