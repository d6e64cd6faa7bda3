-- THE THEOREM OF last_write: after a done reset and any calls of run and take-back it tells what the machine's own steps did. The premises are demand 3's.
use Prim.Native.Nat.{ℕ, zero, suc, ◌-◌, ◌/◌, ◌%◌, ◌^◌, ◌≤◌, ◌<◌}
use native.Mathlib.Omega.{arith}
use mathlib.Core.Path.{◌≡◌, refl, sym, ap, subst, ◌∙◌}
use mathlib.Core.Logic.{◌↔◌}
use mathlib.Core.Bool.{Bool, true, false, cond}
use mathlib.Core.List.{List, [], ◌∷◌}
use borrow.Author.Tests.{eq-eqb}
use lib.Dec.{eqb}
use lib.ListN.{length}
use Rattle.word.specs.Lists.{flat}
use Rattle.word.specs.Big.{word_bytes}
use Rattle.ring.specs.Machine.{iterate}
use Rattle.ring.specs.Slots.{slot_back}
use Rattle.ring.specs.Calls.{net}
use Rattle.clock.specs.declared.Clock.{Clock}
use Rattle.clock.specs.Tick.{time_of}
use Rattle.state.specs.Layout.{machine_of}
use Rattle.step.specs.World.{World}
use Rattle.turn.specs.Buffers.{Buffers}
use Rattle.frames.specs.Bytes.{whole}
use Rattle.run.specs.Run.{forward}
use Rattle.answer.specs.Answer.{number_of, steps_of}
use Rattle.accepted.proofs.Start.{few_slots, ring_sound, image_mark}
use Rattle.backward.proofs.Theorems as backs
use Rattle.demand3.specs.Demand3.{Call, Host, without_roms, back_next, took_to, Boot, Booted, TakesBack, called_all, roms_at, reset_to, world_at}
use Rattle.demand3.proofs.Boot.{frames, boot_framed}
use Rattle.demand3.proofs.Carried.{Carried, carried_start}
use Rattle.demand3.proofs.Demand3.{carried_all, carried_back, carried_gives}
use Rattle.std.specs.Prelude.{Option, Some, None}
use Rattle.seek.specs.declared.Change.{Change}
use Rattle.seek.specs.Latest.{change_of}
use Rattle.lastwrite.specs.LastWrite.{word_fits, place_of, found_in, time_in, answer_words, done_of}
use Rattle.lastwrite.proofs.Theorems as call
use Rattle.told.specs.Told.{word_at, NoWrite, Wrote, Tells, Says, ago_in, hand_in, back_at, ask_next, tell_next, TellsLast}
use Rattle.told.proofs.Clocks.{time_back, time_words}
use Rattle.told.proofs.Asked.{word_there}
use Rattle.told.proofs.Calls.{change_told}

-- ---- from what is found to what is said of it

module _ (ago : ℕ → World) (hand : ℕ) (back : ℕ → World) (place time : ℕ)
    (clocked : (k : ℕ) → k < hand →
    (slot_back whole time k / 2 ^ 32 ≡ (ago k).board.clock.high) × (slot_back whole time k % 2 ^ 32 ≡ (ago k).board.clock.low))
    (taken : (k : ℕ) → k ≤ hand → back k ≡ ago k) where
  said_found : (step old new : ℕ) → Wrote ago hand place step old new → (bytes : List ℕ) → bytes ≡ flat word_bytes (answer_words time (Some (change_of step old new))) →
      Says ago hand back place step bytes
  said_found zero old new h bytes e = absurd h
  said_found (suc k) old new h bytes e =
      let low : k < hand = h.within in
      let one : suc k - 1 ≡ k = omega arith in
      let clock = clocked k low in
      let high : slot_back whole time (suc k - 1) / 2 ^ 32 ≡ (ago k).board.clock.high = ap (λ (j : ℕ). slot_back whole time j / 2 ^ 32) one ∙ clock.0 in
      let rest : slot_back whole time (suc k - 1) % 2 ^ 32 ≡ (ago k).board.clock.low = ap (λ (j : ℕ). slot_back whole time j % 2 ^ 32) one ∙ clock.1 in
      record {
        old = old;
        new = new;
        last = h;
        words = e ∙ (λ i. flat word_bytes (high i ∷ rest i ∷ old ∷ new ∷ []));
        back_old = ap (λ (w : World). word_at w place) (taken (suc k) low) ∙ sym h.before;
        back_new = ap (λ (w : World). word_at w place) (taken k (omega arith)) ∙ sym h.after;
      }

  says_found : (found : Option Change) → Tells ago hand place found → (bytes : List ℕ) → bytes ≡ flat word_bytes (answer_words time found) →
      Says ago hand back place (steps_of (done_of found)) bytes
  says_found None h bytes e = record { none = h; zeros = e }
  says_found (Some c) h bytes e = said_found c.step c.old c.new h bytes e

  some_told : (step old new : ℕ) → Wrote ago hand place step old new → (step ≡ 0) ↔ NoWrite ago hand place
  some_told zero old new h = absurd h
  some_told (suc k) old new h = (
    λ e. absurd (omega (arith, e)),
    λ n. absurd (h.differ (h.before ∙ n k h.within ∙ sym h.after)),
  )

  -- no step is told exactly if none on hand changed the word
  none_told : (found : Option Change) → Tells ago hand place found → (steps_of (done_of found) ≡ 0) ↔ NoWrite ago hand place
  none_told None h = (λ e. h, λ n. refl)
  none_told (Some c) h = some_told c.step c.old c.new h

-- ---- after any calls

module _ (b : Boot) (p : Booted b) (calls : List Call) where
  abbrev h : Host
  h = called_all calls (reset_to b)

  abbrev lent : Buffers
  lent = without_roms h.buffers

  carried : Carried b p h
  carried = carried_all b p calls (reset_to b) (carried_start b p)

  due : TakesBack b h
  due = carried_gives b p h carried

  -- all on hand can be taken back, so rows 1 to 10 are passed
  all_back : number_of (back_next h (hand_in h)).answer ≡ 0
  all_back = (due.back_done (hand_in h)).1 (omega (arith, due.hand))

  -- the steps on hand are few, and were all run
  hand_few : hand_in h < 2 ^ 32
  hand_few =
      let t = (backs.number_0 lent (hand_in h)).0 all_back in
      let journal = h.buffers.beside.journal in
      let keeps = image_mark h.buffers.image (length h.buffers.beside.paper) (length journal) t.1.1.1.0 in
      omega (arith, (ring_sound journal (machine_of h.buffers.image).journal keeps).most, few_slots journal t.1.1.0)

  hand_past : hand_in h ≤ net h.events
  hand_past = omega (arith, due.hand, due.enough)

  number : (address room : ℕ) → number_of (ask_next h address room) ≡ cond (word_fits (length h.buffers.beside.ram) address) (cond (eqb room 16) 0 12) 11
  number address room = go (word_fits (length h.buffers.beside.ram) address) refl (eqb room 16) refl
    where
      go : (word : Bool) → word_fits (length h.buffers.beside.ram) address ≡ word → (fit : Bool) → eqb room 16 ≡ fit →
          number_of (ask_next h address room) ≡ cond word (cond fit 0 12) 11
      go true w true f =
          let t = (backs.number_0 lent (hand_in h)).0 all_back in
          (call.number_0 lent address room).1
          (t.0, (t.1.0, (t.1.1.0, (t.1.1.1.0, (t.1.1.1.1.1.0, (t.1.1.1.1.1.1, (w, f)))))))
      go true w false f =
          let t = (backs.number_0 lent (hand_in h)).0 all_back in
          (call.number_12 lent address room).1
          (t.0, (t.1.0, (t.1.1.0, (t.1.1.1.0, (t.1.1.1.1.1.0, (t.1.1.1.1.1.1, (w, f)))))))
      go false w fit f =
          let t = (backs.number_0 lent (hand_in h)).0 all_back in
          (call.number_11 lent address room).1
          (t.0, (t.1.0, (t.1.1.0, (t.1.1.1.0, (t.1.1.1.1.1.0, (t.1.1.1.1.1.1, w))))))

  -- which are no others
  others : (address room x : ℕ) → number_of (ask_next h address room) ≡ x → 0 < x → x < 11 → ⊥
  others address room x e some few = go (word_fits (length h.buffers.beside.ram) address) (eqb room 16) (sym (number address room) ∙ e)
    where
      go : (word fit : Bool) → cond word (cond fit 0 12) 11 ≡ x → ⊥
      go true true e = absurd (omega (arith, e))
      go true false e = absurd (omega (arith, e))
      go false fit e = absurd (omega (arith, e))

  -- ---- where taking back leads, and the clocks

  taken : (k : ℕ) → k ≤ hand_in h → back_at h k ≡ ago_in b h k
  taken k l =
      let back = carried_gives b p (took_to h (back_next h k)) (carried_back b p h carried k) in
      let steps : steps_of (back_next h k).answer ≡ k = due.back_steps k (omega (arith, due.hand)) in
      let e : net (took_to h (back_next h k)).events ≡ net h.events - k = omega (arith, steps) in
      back.world ∙ ap (λ (j : ℕ). iterate (forward (roms_at b)) j (world_at (reset_to b))) e

  abbrev clock : ℕ → Clock
  clock k = (ago_in b h k).board.clock

  present : time_in lent ≡ time_of (clock 0)
  present =
      let e : net h.events ≡ net h.events - 0 = omega arith in
      ap (λ (w : World). time_of w.board.clock) (due.world ∙ ap (λ (j : ℕ). iterate (forward (roms_at b)) j (world_at (reset_to b))) e)

  clocked : (k : ℕ) → k < hand_in h → (slot_back whole (time_in lent) k / 2 ^ 32 ≡ (clock k).high) × (slot_back whole (time_in lent) k % 2 ^ 32 ≡ (clock k).low)
  clocked k l =
      let few : k ≤ whole = omega (arith, hand_few) in
      let past : k ≤ net h.events = omega (arith, hand_past) in
      let is : slot_back whole (time_in lent) k ≡ time_of (clock k) =
      ap (λ (t : ℕ). slot_back whole t k) present
      ∙ sym (time_back (roms_at b) p.execution_bytes p.bootstrap_bytes (frames b p) (world_at (reset_to b)) (boot_framed b p) (net h.events) k past few) in
      let words = time_words (roms_at b) p.execution_bytes p.bootstrap_bytes (frames b p) (world_at (reset_to b)) (boot_framed b p) (net h.events) k in
      (ap (λ (t : ℕ). t / 2 ^ 32) is ∙ words.0, ap (λ (t : ℕ). t % 2 ^ 32) is ∙ words.1)

  -- ---- at a word of RAM

  module _ (address : ℕ) (word : word_fits (length h.buffers.beside.ram) address ≡ true) where
    abbrev place : ℕ
    place = place_of address

    -- what is found is told of the machine's own steps
    found_tells : Tells (ago_in b h) (hand_in h) place (found_in lent address)
    found_tells =
        let t = (backs.number_0 lent (hand_in h)).0 all_back in
        change_told b p calls place (word_there h.buffers.beside.ram address t.0 word)

    done_number : (room : ℕ) → room ≡ 16 → number_of (ask_next h address room) ≡ 0
    done_number room long =
        number address room ∙ ap (λ (w : Bool). cond w (cond (eqb room 16) 0 12) 11) word ∙ ap (λ (f : Bool). cond f 0 12) (eq-eqb room 16 long)

    steps_are : (room : ℕ) → room ≡ 16 → steps_of (ask_next h address room) ≡ steps_of (done_of (found_in lent address))
    steps_are room long = ap steps_of (call.done_answer lent address room (done_number room long))

    says_here : (before : List ℕ) → length before ≡ 16 →
        Says (ago_in b h) (hand_in h) (back_at h) place (steps_of (ask_next h address (length before))) (tell_next h address before)
    says_here before long =
        let bytes = tell_next h address before in
        subst (λ (k : ℕ). Says (ago_in b h) (hand_in h) (back_at h) place k bytes) (sym (steps_are (length before) long))
        (says_found (ago_in b h) (hand_in h) (back_at h) place (time_in lent) clocked taken (found_in lent address) found_tells bytes
        (call.done_bytes lent address before (done_number (length before) long)))

    none_here : (room : ℕ) → room ≡ 16 → (steps_of (ask_next h address room) ≡ 0) ↔ NoWrite (ago_in b h) (hand_in h) place
    none_here room long =
        let n = none_told (ago_in b h) (hand_in h) (back_at h) place (time_in lent) clocked taken (found_in lent address) found_tells in
        (λ e. n.0 (sym (steps_are room long) ∙ e), λ w. steps_are room long ∙ n.1 w)

  -- THE THEOREM
  pub tells_last : TellsLast b h
  tells_last =
      record {
        number = number;
        never_5 = λ address room e. others address room 5 e (omega arith) (omega arith);
        never_8 = λ address room e. others address room 8 e (omega arith) (omega arith);
        no_reason = λ address room. call.never_a_reason lent address room;
        says = says_here;
        none_exactly = none_here;
      }
