-- Whether steps can be taken back, and taking them back.
use Prim.Native.Nat.{ℕ, ◌-◌, ◌≤◌, ◌<◌}
use mathlib.Core.Path.{◌≡◌, refl, sym, ap, ◌∙◌}
use mathlib.Core.Bool.{Bool, true, false, cond, true≢false}
use mathlib.Core.List.{List}
use borrow.Author.Tests.{lt-ltb, le-ltb, ltb-false}
use lib.Dec.{ltb}
use lib.ListN.{length}
use Rattle.ring.specs.Slots.{slot_back, lowered}
use Rattle.ring.specs.Back.{How, Took, undone, undone_side, all_fit, all_fit_core, take_back, done, too_far, bad_record}
use Rattle.ring.proofs.Back.{core_fits, back_done}
use Rattle.journal.specs.Journal.{slots_of}
use Rattle.state.specs.declared.machine.Machine.{Machine}
use Rattle.step.specs.World.{World, world_in}
use Rattle.turn.specs.Buffers.{Beside, beside_of}
use Rattle.run.specs.Run.{config_of}
use Rattle.back.specs.Back.{both, no_roms, view_in, back_of, asked_of, TakeIs}
use Rattle.back.proofs.Cored.{core_laws}

abbrev pub is_done : How → Bool
is_done done = true
is_done too_far = false
is_done bad_record = false

module _ (k : ℕ) (m : Machine) (b : Beside) where
  abbrev n : ℕ
  n = slots_of b.journal

  abbrev next : ℕ
  next = m.journal.next_slot

  abbrev w : World
  w = world_in m b.ram b.paper

  abbrev all_fit_lem : Bool
  all_fit_lem = all_fit_core (both no_roms) n b.journal next k (view_in m (length b.ram) (length b.paper))

  abbrev taken_by : Bool → Bool → Took (both no_roms)
  taken_by far fit =
      let here = config_of no_roms m b in
      cond far (record { config = here; answer = too_far })
      (cond fit
      (record {
        config =
            record {
              state = undone (both no_roms) n b.journal next k w;
              side = undone_side (both no_roms) n b.journal next k m.journal.on_hand w b.index;
              ring = lowered n k here.ring;
            };
        answer = done;
      })
      (record { config = here; answer = bad_record }))

  -- whether they can be taken back is ring's answer
  pub asked_is : asked_of k m (length b.ram) (length b.paper) b.journal ≡ (back_of k m b).answer
  unfolding take_back
  asked_is =
      go (ltb m.journal.on_hand k) (all_fit (both no_roms) n b.journal next k w) all_fit_lem (core_fits (both no_roms) n b.journal next (core_laws no_roms) w k)
    where
      go : (far fit core : Bool) → fit ≡ core → cond far too_far (cond core done bad_record) ≡ (taken_by far fit).answer
      go true fit core e = refl
      go false true core e = rw (← e)
      go false false core e = rw (← e)

  pub takes_done : k ≤ m.journal.on_hand → all_fit_lem ≡ true → (back : Machine) (ram paper index : List ℕ) (hand turned : ℕ) →
      world_in back ram paper ≡ undone (both no_roms) n b.journal next k w →
      index ≡ undone_side (both no_roms) n b.journal next k m.journal.on_hand w b.index →
      hand ≡ m.journal.on_hand - k → turned ≡ slot_back n next k →
      TakeIs k m b (record { cpu = back.cpu; board = back.board; journal = record { on_hand = hand; next_slot = turned } })
      (beside_of b.execution b.bootstrap ram paper b.journal index)
  takes_done near good back ram paper index hand turned state side fewer placed =
      let M = both no_roms in
      (λ i. record { state = state i; side = side i; ring = record { bytes = b.journal; hand = fewer i; next = placed i } })
      ∙ ap (λ (t : Took M). t.config) (sym (back_done M n (config_of no_roms m b) k near (core_fits M n b.journal next (core_laws no_roms) w k ∙ good)))

-- ---- what the answer says

module _ (k : ℕ) (m : Machine) (ram paper : ℕ) (journal : List ℕ) where
  abbrev pub fits : Bool
  fits = all_fit_core (both no_roms) (slots_of journal) journal m.journal.next_slot k (view_in m ram paper)

  pub asked_far : m.journal.on_hand < k → too_far ≡ asked_of k m ram paper journal
  asked_far h = sym (ap (λ (far : Bool). cond far too_far (cond fits done bad_record)) (lt-ltb m.journal.on_hand k h))

  module _ (near : k ≤ m.journal.on_hand) where
    by_fit : asked_of k m ram paper journal ≡ cond fits done bad_record
    by_fit = ap (λ (far : Bool). cond far too_far (cond fits done bad_record)) (le-ltb m.journal.on_hand k near)

    pub asked_bad : fits ≡ false → bad_record ≡ asked_of k m ram paper journal
    asked_bad bad = sym (by_fit ∙ ap (λ (fit : Bool). cond fit done bad_record) bad)

    pub asked_done : fits ≡ true → done ≡ asked_of k m ram paper journal
    asked_done good = sym (by_fit ∙ ap (λ (fit : Bool). cond fit done bad_record) good)

  -- done says both
  pub done_says : asked_of k m ram paper journal ≡ done → (k ≤ m.journal.on_hand) × (fits ≡ true)
  done_says e = go (ltb m.journal.on_hand k) fits refl refl e
    where
      go : (far fit : Bool) → ltb m.journal.on_hand k ≡ far → fits ≡ fit → cond far too_far (cond fit done bad_record) ≡ done → (k ≤ m.journal.on_hand) × (fits ≡ true)
      go true fit f g e = absurd (true≢false (sym (ap is_done e)))
      go false true f g e = (ltb-false m.journal.on_hand k f, g)
      go false false f g e = absurd (true≢false (sym (ap is_done e)))
