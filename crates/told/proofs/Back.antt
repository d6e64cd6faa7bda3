-- OVER TAKING BACK: whatever the journal's bytes are, if all the records on hand are well formed, the answers tell what taking back finds.
use Prim.Native.Nat.{ℕ, zero, suc, ◌+◌, ◌*◌, ◌^◌, ◌≤◌, ◌<◌}
use native.Mathlib.Omega.{arith}
use native.Mathlib.Decide.{ℕ_discrete}
use mathlib.Core.Path.{◌≡◌, sym, ap, subst, ◌∙◌}
use mathlib.Core.Bool.{Bool, true, false, cond}
use mathlib.Core.List.{List, map}
use lib.Dec.{eqb}
use lib.ListN.{length}
use Rattle.word.specs.Lists.{Below}
use Rattle.word.proofs.Cond.{both}
use Rattle.memory.proofs.OneCell.{load_small}
use Rattle.ring.specs.Slots.{Sound, slot_back}
use Rattle.ring.specs.Run.{Config}
use Rattle.ring.specs.Back.{undone, all_fit, take_back}
use Rattle.ring.proofs.Slots.{length_slot, slot_at, back_below}
use Rattle.ring.proofs.Back.{fit_each, core_undone, core_fits, back_done}
use Rattle.journal.specs.Journal.{slots_of}
use Rattle.record.specs.declared.Saved.TheVariants.{Nothing, Register, TlbRow, RamWord}
use Rattle.record.specs.Layout.{saved_at, record_of, record_at, slot_word}
use Rattle.step.specs.World.{World}
use Rattle.undo.specs.Undo.{view_of, undo_of}
use Rattle.undo.specs.Fit.{fit_of}
use Rattle.undo.proofs.Laws.{fit_undoable}
use Rattle.back.specs.Back as back
use Rattle.back.specs.Back.{no_roms}
use Rattle.back.proofs.Cored.{core_laws}
use Rattle.seek.specs.OnHand.{kth_of, held_of}
use Rattle.seek.specs.Latest.{word_before}
use Rattle.seek.specs.Pcs.{newest, oldest}
use Rattle.seek.specs.Seek.{has_word, writes_of, pc_of, last_change_of, newest_at_of, oldest_at_of}
use Rattle.std.specs.Prelude.{Option}
use Rattle.seek.specs.declared.Change.{Change}
use Rattle.told.specs.Told.{word_at, pc_at, Tells, pcs_ago}
use Rattle.told.proofs.Tells.{aligned, change_held, newest_held, oldest_held, scan_tells, scan_only, pcs_are, tells_same}
use Rattle.told.proofs.Word.{Small, word_undone}

-- the old word that bytes say is a word
saved_small : (kind which first second : ℕ) → first < 2 ^ 32 → Small (saved_at kind which first second)
unfolding saved_at
saved_small kind which first second small = go (eqb kind 1) (eqb kind 2) (eqb kind 3)
  where
    go : (one two three : Bool) →
        Small (cond one (Register which first) (cond two (TlbRow which (record { high = first; low = second })) (cond three (RamWord which first second) Nothing)))
    go true two three = tt
    go false true three = tt
    go false false true = small
    go false false false = tt

slot_small : (bytes : List ℕ) → length bytes ≡ 512 → Below 256 bytes → Small (record_of bytes).saved
unfolding record_of record_at
slot_small bytes long below =
    saved_small (slot_word bytes 59) (slot_word bytes 60) (slot_word bytes 61) (slot_word bytes 62) (load_small 4 bytes 244 (omega arith) below)

-- where the h newest are well formed, fewer are too
fewer : (journal : List ℕ) (next : ℕ) (w : World) (h k : ℕ) → k ≤ h → all_fit (back.both no_roms) (slots_of journal) journal next h w ≡ true →
    all_fit (back.both no_roms) (slots_of journal) journal next k w ≡ true
unfolding all_fit
fewer journal next w zero k l all =
    let none : 0 ≡ k = omega arith in
    subst (λ (i : ℕ). all_fit (back.both no_roms) (slots_of journal) journal next i w ≡ true) none all
fewer journal next w (suc h) k l all =
    elim (ℕ_discrete (suc h) k) [
      | yes e ↦ subst (λ (i : ℕ). all_fit (back.both no_roms) (slots_of journal) journal next i w ≡ true) e all
      | no e ↦ fewer journal next w h k (omega arith) (both _ _ all).0
    ]

module _ (journal index : List ℕ) (hand next : ℕ) (w : World) where
  abbrev n : ℕ
  n = slots_of journal

  -- the state with the k newest records undone
  abbrev undone_to : ℕ → World
  undone_to k = undone (back.both no_roms) n journal next k w

  abbrev here : Config (back.both no_roms).forward
  here = record { state = w; side = index; ring = record { bytes = journal; hand = hand; next = next } }

  -- the state that taking back k leaves
  abbrev pub taken_back : ℕ → World
  taken_back k = (take_back (back.both no_roms) n k here).config.state

  module _ (sound : Sound 512 n here.ring) (fit : all_fit (back.both no_roms) n journal next hand w ≡ true) where
    fits : (i : ℕ) → i < hand → fit_of (kth_of journal next (suc i)) (view_of (undone_to i)) ≡ true
    fits i l =
        let M = back.both no_roms in
        ap (fit_of (kth_of journal next (suc i))) (core_undone M n journal next (core_laws no_roms) w i)
        ∙ fit_each M n journal next (view_of w) i hand l (sym (core_fits M n journal next (core_laws no_roms) w hand) ∙ fit)

    taken_is : (k : ℕ) → k ≤ hand → undone_to k ≡ taken_back k
    taken_is k l = sym (ap (λ t. t.config.state) (back_done (back.both no_roms) n here k l (fewer journal next w hand k l fit)))

    -- record i, as long as a slot
    slot_long : (i : ℕ) → i < hand → length (kth_of journal next (suc i)) ≡ 512
    slot_long i l =
        let some : next < n = omega (arith, sound.place, sound.most) in
        length_slot 512 n journal sound.room (slot_back n next (suc i)) (back_below n next (suc i) some (omega (arith, sound.most)))

    module _ (place : ℕ) (has : has_word w.ram place ≡ true) (bytes : Below 256 journal) where
      slot_bytes : (i : ℕ) → i < hand → Below 256 (kth_of journal next (suc i))
      slot_bytes i l j b =
          let long = slot_long i l in
          let some : next < n = omega (arith, sound.place, sound.most) in
          let within = back_below n next (suc i) some (omega (arith, sound.most)) in
          subst (λ (x : ℕ). x < 256) (sym (slot_at 512 journal (slot_back n next (suc i)) j (omega arith)))
          (bytes (512 * slot_back n next (suc i) + j) (omega (arith, sound.room)))

      says : (i : ℕ) → i < hand → word_at (undone_to (suc i)) place ≡ word_before place (writes_of (kth_of journal next (suc i))) (word_at (undone_to i) place)
      unfolding undone undo_of
      says i l =
          let slot = kth_of journal next (suc i) in
          let able = fit_undoable slot (view_of (undone_to i)) (fits i l) in
          word_undone (record_of slot).saved (undone_to i).ram place able.ranged able.word (slot_small slot (slot_long i l) (slot_bytes i l))
          (aligned w.ram place has)

      -- THE LAW of last_change over taking back, and that no other answer keeps it
      pub back_tells : Tells taken_back hand place (last_change_of w.ram journal hand next place)
      unfolding undone
      back_tells =
          tells_same undone_to taken_back hand taken_is place (last_change_of w.ram journal hand next place)
          (subst (Tells undone_to hand place) (change_held journal hand next sound w.ram place has)
          (scan_tells journal hand next undone_to place says))

      pub back_only : (r : Option Change) → Tells taken_back hand place r → r ≡ last_change_of w.ram journal hand next place
      unfolding undone
      back_only r told =
          scan_only journal hand next undone_to place says r (tells_same taken_back undone_to hand (λ k l. sym (taken_is k l)) place r told)
          ∙ change_held journal hand next sound w.ram place has

    pc_back : (i : ℕ) → i < hand → pc_at (taken_back (suc i)) ≡ pc_of (kth_of journal next (suc i))
    unfolding undone undo_of
    pc_back i l = ap pc_at (sym (taken_is (suc i) l))

    pcs : map pc_of (held_of journal hand next) ≡ pcs_ago taken_back hand
    pcs = pcs_are journal hand next taken_back pc_back

    -- THE LAWS of newest_at and oldest_at over taking back
    pub back_newest : (pc : ℕ) → newest_at_of journal hand next pc ≡ newest pc 0 (pcs_ago taken_back hand)
    back_newest pc = newest_held journal hand next sound pc ∙ ap (newest pc 0) pcs

    pub back_oldest : (pc : ℕ) → oldest_at_of journal hand next pc ≡ oldest pc (pcs_ago taken_back hand) hand
    back_oldest pc = oldest_held journal hand next sound pc ∙ ap (λ (l : List ℕ). oldest pc l hand) pcs
