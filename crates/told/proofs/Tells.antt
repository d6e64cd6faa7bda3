-- From what each record says of the state before its step to what the answers tell.
use Prim.Native.Nat.{ℕ, zero, suc, ◌+◌, ◌%◌, ◌≤◌, ◌<◌}
use native.Mathlib.Omega.{arith}
use mathlib.Core.Path.{◌≡◌, refl, sym, ap, ap₂, ◌∙◌}
use mathlib.Core.Bool.{Bool, true, false, cond}
use mathlib.Core.List.{List, [], map}
use borrow.Author.Tests.{eqb-true, le-leb, lt-ltb}
use lib.Dec.{eqb, leb}
use lib.ListN.{length}
use lib.Seq.{ext_get_or}
use Rattle.word.proofs.Cond.{both, and_true}
use Rattle.word.proofs.Lists.{length_tabulate, get_d_tabulate}
use Rattle.memory.specs.Memory.{load_at}
use Rattle.ring.specs.Slots.{Sound}
use Rattle.ring.proofs.Slots.{by_leb}
use Rattle.journal.specs.Journal.{slots_of}
use Rattle.step.specs.World.{World}
use Rattle.seek.specs.OnHand.{fits_in, kth_of, held_of, records_of}
use Rattle.seek.specs.Latest.{Write, word_before, word_back, Altered, Answers, scan}
use Rattle.seek.specs.Pcs.{newest, oldest}
use Rattle.seek.specs.Seek.{has_word, writes_of, pc_of, last_change_of, newest_at_of, oldest_at_of}
use Rattle.std.specs.Prelude.{Option, Some, None}
use Rattle.seek.specs.declared.Change.{Change}
use Rattle.seek.proofs.OnHand.{held_long, held_at}
use Rattle.seek.proofs.Latest.{scan_answers, one_answer, back_more}
use Rattle.told.specs.Told.{word_at, pc_at, Wrote, Tells, pcs_ago}

pub aligned : (ram : List ℕ) (place : ℕ) → has_word ram place ≡ true → place % 4 ≡ 0
aligned ram place has = eqb-true (place % 4) 0 (both (eqb (place % 4) 0) (leb (place + 4) (length ram)) has).0

module _ (journal : List ℕ) (hand next : ℕ) where
  -- of a sound ring the records on hand are all there, also where there are none
  pub sound_records : Sound 512 (slots_of journal) (record { bytes = journal; hand = hand; next = next }) → records_of journal hand next ≡ held_of journal hand next
  sound_records h =
      by_leb 1 (slots_of journal)
      (λ some.
      ap (λ (b : Bool). cond b (held_of journal hand next) [])
      (and_true (le-leb hand (slots_of journal) h.most) (lt-ltb next (slots_of journal) (omega (arith, h.place)))))
      (λ none.
      let zero_hand : hand ≡ 0 = omega (arith, h.most) in
      ap (λ (k : ℕ). cond (fits_in journal hand next) (held_of journal k next) []) zero_hand
      ∙ either (fits_in journal hand next)
      ∙ ap (λ (k : ℕ). held_of journal k next) (sym zero_hand))
    where
      either : (b : Bool) → cond b (held_of journal 0 next) [] ≡ []
      either true = refl
      either false = refl

  module _ (sound : Sound 512 (slots_of journal) (record { bytes = journal; hand = hand; next = next })) where
    pub change_held : (ram : List ℕ) (place : ℕ) → has_word ram place ≡ true →
        scan place (load_at 4 ram place) 0 (map writes_of (held_of journal hand next)) ≡ last_change_of ram journal hand next place
    unfolding last_change_of
    change_held ram place has =
        ap₂ (λ (l : List (List ℕ)) (b : Bool). cond b (scan place (load_at 4 ram place) 0 (map writes_of l)) None) (sym (sound_records sound)) (sym has)

    pub newest_held : (pc : ℕ) → newest_at_of journal hand next pc ≡ newest pc 0 (map pc_of (held_of journal hand next))
    unfolding newest_at_of
    newest_held pc = ap (λ (l : List (List ℕ)). newest pc 0 (map pc_of l)) (sound_records sound)

    pub oldest_held : (pc : ℕ) → oldest_at_of journal hand next pc ≡ oldest pc (map pc_of (held_of journal hand next)) hand
    unfolding oldest_at_of
    oldest_held pc =
        ap (λ (l : List (List ℕ)). oldest pc (map pc_of l) (length (map pc_of l))) (sound_records sound)
        ∙ ap (oldest pc (map pc_of (held_of journal hand next))) (held_long pc_of journal hand next)

  module _ (ago : ℕ → World) where
    -- ---- a word

    module _ (place : ℕ) (says : (i : ℕ) → i < hand → word_at (ago (suc i)) place ≡ word_before place (writes_of (kth_of journal next (suc i))) (word_at (ago i) place)) where
      abbrev steps : List (List Write)
      steps = map writes_of (held_of journal hand next)

      abbrev present : ℕ
      present = word_at (ago 0) place

      long : length steps ≡ hand
      long = held_long writes_of journal hand next

      word_back_lem : (k : ℕ) → k ≤ hand → word_at (ago k) place ≡ word_back place steps present k
      word_back_lem zero h = refl
      word_back_lem (suc k) h =
          says k h
          ∙ ap (word_before place (writes_of (kth_of journal next (suc k)))) (word_back_lem k (omega arith))
          ∙ ap (λ (ws : List Write). word_before place ws (word_back place steps present k)) (sym (held_at writes_of journal hand next k [] h))
          ∙ sym (back_more place present steps k (omega (arith, long)))

      wrote : (step old new : ℕ) → Altered place steps present step old new → Wrote ago hand place step old new
      wrote zero old new h = h
      wrote (suc k) old new h =
          let low : k < hand = omega (arith, long, h.within) in
          record {
            within = low;
            before = h.before ∙ sym (word_back_lem (suc k) low);
            after = h.after ∙ sym (word_back_lem k (omega arith));
            differ = h.differ;
            newer = λ j l. word_back_lem (suc j) (omega arith) ∙ h.newer j l ∙ sym (word_back_lem j (omega arith));
          }

      tells : (r : Option Change) → Answers place steps present r → Tells ago hand place r
      tells None h = λ k l. word_back_lem (suc k) l ∙ h k (omega (arith, long)) ∙ sym (word_back_lem k (omega arith))
      tells (Some c) h = wrote c.step c.old c.new h

      pub scan_tells : Tells ago hand place (scan place present 0 steps)
      scan_tells = tells (scan place present 0 steps) (scan_answers place present steps)

      altered : (step old new : ℕ) → Wrote ago hand place step old new → Altered place steps present step old new
      altered zero old new h = h
      altered (suc k) old new h =
          let low : k < hand = h.within in
          record {
            within = omega (arith, long);
            before = h.before ∙ word_back_lem (suc k) low;
            after = h.after ∙ word_back_lem k (omega arith);
            differ = h.differ;
            newer = λ j l. sym (word_back_lem (suc j) (omega arith)) ∙ h.newer j l ∙ word_back_lem j (omega arith);
          }

      answers : (r : Option Change) → Tells ago hand place r → Answers place steps present r
      answers None h = λ k l.
          let low : k < hand = omega (arith, long) in
          sym (word_back_lem (suc k) low) ∙ h k low ∙ word_back_lem k (omega arith)
      answers (Some c) h = altered c.step c.old c.new h

      -- and no other answer does
      pub scan_only : (r : Option Change) → Tells ago hand place r → r ≡ scan place present 0 steps
      scan_only r h = one_answer place present steps r (scan place present 0 steps) (answers r h) (scan_answers place present steps)

    -- ---- the PCs

    pub pcs_are : ((i : ℕ) → i < hand → pc_at (ago (suc i)) ≡ pc_of (kth_of journal next (suc i))) → map pc_of (held_of journal hand next) ≡ pcs_ago ago hand
    pcs_are says =
        let past : ℕ → ℕ = λ i. pc_at (ago (suc i)) in
        ext_get_or 0 (map pc_of (held_of journal hand next)) (pcs_ago ago hand)
        (held_long pc_of journal hand next ∙ sym (length_tabulate hand past))
        (λ i l.
        let low : i < hand = omega (arith, held_long pc_of journal hand next) in
        held_at pc_of journal hand next i 0 low ∙ sym (says i low) ∙ sym (get_d_tabulate hand past i 0 low))

-- the same states, said otherwise
module _ (ago ago' : ℕ → World) (hand : ℕ) (same : (k : ℕ) → k ≤ hand → ago k ≡ ago' k) where
  word_same : (k place : ℕ) → k ≤ hand → word_at (ago k) place ≡ word_at (ago' k) place
  word_same k place l = ap (λ (w : World). word_at w place) (same k l)

  left_same : (k place : ℕ) → k < hand → word_at (ago (suc k)) place ≡ word_at (ago k) place → word_at (ago' (suc k)) place ≡ word_at (ago' k) place
  left_same k place l e = sym (word_same (suc k) place l) ∙ e ∙ word_same k place (omega arith)

  wrote_same : (place step old new : ℕ) → Wrote ago hand place step old new → Wrote ago' hand place step old new
  wrote_same place zero old new h = h
  wrote_same place (suc k) old new h =
      let low : k < hand = h.within in
      record {
        within = low;
        before = h.before ∙ word_same (suc k) place low;
        after = h.after ∙ word_same k place (omega arith);
        differ = h.differ;
        newer = λ j l. left_same j place (omega arith) (h.newer j l);
      }

  pub tells_same : (place : ℕ) (r : Option Change) → Tells ago hand place r → Tells ago' hand place r
  tells_same place None h = λ k l. left_same k place l (h k l)
  tells_same place (Some c) h = wrote_same place c.step c.old c.new h
