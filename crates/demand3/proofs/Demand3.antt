-- THE THEOREM OF DEMAND 3: ring's theorem of running back, carried to the bytes that the host lends. specs/Demand3.antt has the premises and the conclusions.
use Prim.Native.Nat.{ℕ, ◌/◌, ◌≤◌, ◌<◌}
use native.Mathlib.Omega.{arith}
use mathlib.Core.Path.{◌≡◌, refl, sym, ap, subst, ◌∙◌}
use mathlib.Core.Bool.{Bool, true, false, not, cond}
use mathlib.Core.List.{List, [], ◌∷◌, map}
use borrow.Author.Tests.{le-leb, lt-leb}
use lib.Dec.{eqb, leb}
use lib.ListN.{length}
use Rattle.ring.specs.Slots.{lowered, records_in}
use Rattle.ring.specs.Run as ring
use Rattle.ring.specs.Run.{Ran, Config}
use Rattle.ring.specs.Back.{undone, undone_side, all_fit}
use Rattle.ring.specs.Calls as ring_calls
use Rattle.ring.specs.Calls.{Event, ran, took, net}
use Rattle.ring.proofs.Slots.{by_leb}
use Rattle.ring.proofs.Back as ring_back
use Rattle.ring.proofs.History.{kept_called, fits_all}
use Rattle.journal.specs.Journal.{slots_of}
use Rattle.state.specs.Layout.{bytes_of, machine_of}
use Rattle.step.specs.World.{World, Roms}
use Rattle.turn.specs.Buffers.{with_roms}
use Rattle.good.specs.Good.{machine_in}
use Rattle.run.specs.Run.{forward}
use Rattle.frames.specs.OnHand.{Touch}
use Rattle.frames.specs.Afresh.{index_of}
use Rattle.frames.specs.Bytes.{whole, index_bytes}
use Rattle.indexed.specs.Index.{seen_of, steps_in, afresh}
use Rattle.indexed.proofs.Kept.{Indexed}
use Rattle.back.specs.Back.{base, both, no_roms}
use Rattle.back.proofs.Roms.{undone_roms, side_roms, fit_roms}
use Rattle.answer.specs.Answer.{number_of}
use Rattle.accepted.specs.Left.{Left}
use Rattle.forward.specs.Run.{done_run}
use Rattle.backward.specs.Back.{done_back}
use Rattle.demand3.specs.Demand3.{Call, run, back, Host, without_roms, run_next, back_next, ran_to, back_in, took_to, called, called_all, Boot, Booted, roms_at, reset_to, world_at, TakesBack}
use Rattle.forward.proofs.Theorems as forth
use Rattle.backward.proofs.Theorems as backs
use Rattle.demand3.proofs.Boot.{frames, boot_framed, boot_laws, boot_besides, later_long}
use Rattle.demand3.proofs.Carried.{config_at, KeptIn, Carried, carried_start, carry, same_ran, same_took, accepted}

-- working the index out afresh asks for no ROM
steps_roms : (roms : Roms) (w : World) (records : List (List ℕ)) → steps_in (base roms) w records ≡ steps_in (base no_roms) w records
steps_roms roms w [] = refl
steps_roms roms w (r ∷ older) =
    ap {B = List (List Touch)} (λ (l : List (List Touch)). map (seen_of (base no_roms).ahead w) ((base no_roms).ahead.noted r) ∷ l) (steps_roms roms ((base no_roms).undo r w) older)

afresh_roms : (roms : Roms) (frames : ℕ) (w : World) (records : List (List ℕ)) → afresh (base roms) frames w records ≡ afresh (base no_roms) frames w records
afresh_roms roms frames w records =
    ap (λ (steps : List (List Touch)). index_bytes frames (index_of whole ((base no_roms).ahead.clock w) steps)) (steps_roms roms w records)

module _ (b : Boot) (p : Booted b) (h : Host) (c : Carried b p h) where
  abbrev journal : List ℕ
  journal = h.buffers.beside.journal

  abbrev n : ℕ
  n = slots_of journal

  abbrev here : Config (forward (roms_at b))
  here = config_at b h

  -- over the slots of the journal as it is lent now, which are as many as at the start
  kept_now : KeptIn b p n here h.events
  kept_now = subst (λ (k : ℕ). KeptIn b p k here h.events) (sym (accepted b p h c).slots_same) c.kept

  kept_then : (d : Config (forward (roms_at b))) (events : List Event) → KeptIn b p n d events → KeptIn b p (slots_of b.buffers.beside.journal) d events
  kept_then d events k = subst (λ (j : ℕ). KeptIn b p j d events) (accepted b p h c).slots_same k

  -- ---- run

  pub run_number : (budget stop : ℕ) → number_of (run_next h budget stop).answer ≡ cond (leb budget 1000000) 0 6
  run_number budget stop = go (leb budget 1000000) refl
    where
      go : (t : Bool) → leb budget 1000000 ≡ t → number_of (run_next h budget stop).answer ≡ cond t 0 6
      go true e =
          let a = accepted b p h c in
          (forth.number_0 h.buffers budget stop).1
          (a.ram_fits, (a.roms_fit, (a.paper_fits, (a.journal_fits, (a.image_good, (e, a.index_fits))))))
      go false e =
          let a = accepted b p h c in
          (forth.number_6 h.buffers budget stop).1
          (a.ram_fits, (a.roms_fit, (a.paper_fits, (a.journal_fits, (a.image_good, e)))))

  module _ (budget stop : ℕ) where
    abbrev r : Ran (forward (roms_at b))
    r = ring.run (forward (roms_at b)) n budget (not (eqb stop 0)) here

    kept_run : KeptIn b p n r.config (ran r.taken ∷ h.events)
    unfolding ring_calls.called
    kept_run =
        kept_called (both (roms_at b)) (world_at (reset_to b)) _ (Indexed (base (roms_at b)) (frames b p)) (boot_laws b p) (boot_framed b p) (boot_besides b p) n (ring_calls.run budget (not (eqb stop 0)))
        (record { config = here; events = h.events }) kept_now

    -- the host, if it had these ROMs
    abbrev host_with : Roms → Host
    host_with roms = record { buffers = record { image = h.buffers.image; beside = with_roms roms h.buffers.beside }; events = h.events }

    carried_done : Carried b p (ran_to h (done_run h.buffers budget stop))
    unfolding done_run
    carried_done =
        subst (λ (roms : Roms). Carried b p (ran_to (host_with roms) (done_run (host_with roms).buffers budget stop))) (sym c.roms_same)
        (carry b p r.config (ran r.taken ∷ h.events) (kept_then r.config (ran r.taken ∷ h.events) kept_run) (host_with (roms_at b)).buffers.beside refl)

    pub carried_run : Carried b p (ran_to h (run_next h budget stop))
    carried_run = go (leb budget 1000000) (run_number budget stop)
      where
        go : (t : Bool) → number_of (run_next h budget stop).answer ≡ cond t 0 6 → Carried b p (ran_to h (run_next h budget stop))
        go true e =
            subst (λ (l : Left). Carried b p (ran_to h l)) (sym (forth.done_is h.buffers budget stop e)) carried_done
        go false e =
            let u = forth.refused_same h.buffers budget stop (λ z. absurd (omega (arith, e, z))) in
            same_ran b p h c _ _ u.same u.no_steps

  -- ---- take-back

  abbrev hand : ℕ
  hand = (machine_of h.buffers.image).journal.on_hand

  abbrev next : ℕ
  next = (machine_of h.buffers.image).journal.next_slot

  module _ (k : ℕ) where
    module _ (near : k ≤ hand) where
      fits_now : all_fit (both (roms_at b)) n journal next k (world_at h) ≡ true
      fits_now = fits_all (both (roms_at b)) (world_at (reset_to b)) _ (Indexed (base (roms_at b)) (frames b p)) (boot_laws b p) (boot_framed b p) (boot_besides b p) n (net h.events) here kept_now.holds k near

      pub done_number : number_of (back_next h k).answer ≡ 0
      done_number =
          let a = accepted b p h c in
          (backs.number_0 (without_roms h.buffers) k).1
          (a.ram_fits, (a.paper_fits, (a.journal_fits, (a.image_good, (le-leb k hand near, (sym (fit_roms (roms_at b) n journal next k (world_at h)) ∙ fits_now, a.index_fits))))))

      abbrev older : World
      older = undone (both (roms_at b)) n journal next k (world_at h)

      abbrev left : List ℕ
      left = undone_side (both (roms_at b)) n journal next k hand (world_at h) h.buffers.beside.index

      abbrev lower : Config (forward (roms_at b))
      lower = record { state = older; side = left; ring = lowered n k here.ring }

      kept_back : KeptIn b p n lower (took k ∷ h.events)
      unfolding ring_calls.called
      kept_back =
          rw (ring_back.back_done (both (roms_at b)) n here k near fits_now) at
          (kept_called (both (roms_at b)) (world_at (reset_to b)) _ (Indexed (base (roms_at b)) (frames b p)) (boot_laws b p) (boot_framed b p) (boot_besides b p) n (ring_calls.back k)
          (record { config = here; events = h.events }) kept_now)

      -- no ROM had a part in it
      carried_older : Carried b p (took_to h (backs.done_leaves (without_roms h.buffers) k))
      carried_older =
          subst (λ (x : List ℕ). Carried b p (took_to h (done_back k (without_roms h.buffers).beside (undone (both no_roms) n journal next k (world_at h)) x (lowered n k here.ring))))
          (side_roms (roms_at b) n journal next k hand (world_at h) h.buffers.beside.index)
          (subst (λ (w : World). Carried b p (took_to h (done_back k (without_roms h.buffers).beside w left (lowered n k here.ring))))
          (undone_roms (roms_at b) n journal next k (world_at h))
          (carry b p lower (took k ∷ h.events) (kept_then lower (took k ∷ h.events) kept_back) h.buffers.beside c.roms_same))

      near_carried : Carried b p (took_to h (back_next h k))
      near_carried =
          subst (λ (l : Left). Carried b p (took_to h l)) (sym (backs.done_is (without_roms h.buffers) k done_number)) carried_older

    module _ (far : hand < k) where
      pub far_number : number_of (back_next h k).answer ≡ 7
      far_number =
          let a = accepted b p h c in
          (backs.number_7 (without_roms h.buffers) k).1
          (a.ram_fits, (a.paper_fits, (a.journal_fits, (a.image_good, lt-leb k hand far))))

      far_carried : Carried b p (took_to h (back_next h k))
      far_carried =
          let u = backs.refused_same (without_roms h.buffers) k (λ z. absurd (omega (arith, far_number, z))) in
          same_took b p h c _ _ (ap (back_in h) u.same) u.no_steps

    pub carried_back : Carried b p (took_to h (back_next h k))
    carried_back = by_leb k hand near_carried far_carried

  -- ---- the conclusions

  ram_same : length h.buffers.beside.ram ≡ length b.buffers.beside.ram
  ram_same = ap (λ (w : World). length w.ram) c.kept.holds.state ∙ (later_long b p (net h.events)).0

  pub carried_gives : TakesBack b h
  carried_gives =
      let k = c.kept in
      let same = k.hand in
      record {
        world = k.holds.state;
        image_is = c.image_is ∙ ap (λ (w : World). bytes_of (machine_in w (machine_of h.buffers.image).journal)) k.holds.state;
        index_is =
            kept_now.holds.beside.bytes
            ∙ afresh_roms (roms_at b) (frames b p) (world_at h) (records_in 512 n here.ring)
            ∙ ap (λ (f : ℕ). afresh (base no_roms) f (world_at h) (records_in 512 n here.ring)) (ap (λ (l : ℕ). l / 4096) (sym ram_same));
        roms_same = c.roms_same;
        enough = k.enough;
        hand = same;
        too_far = λ j. (
          λ e. by_leb j hand (λ l. absurd (omega (arith, e, done_number j l))) (λ l. subst (λ (x : ℕ). x < j) same l),
          λ l. far_number j (subst (λ (x : ℕ). x < j) (sym same) l),
        );
        back_done = λ j. (
          λ e. by_leb j hand (λ l. subst (λ (x : ℕ). j ≤ x) same l) (λ l. absurd (omega (arith, e, far_number j l))),
          λ l. done_number j (subst (λ (x : ℕ). j ≤ x) (sym same) l),
        );
        back_steps = λ j l. (backs.done_steps (without_roms h.buffers) j (done_number j (subst (λ (x : ℕ). j ≤ x) (sym same) l))).0;
        back_never_5 = λ j e. by_leb j hand (λ l. omega (arith, e, done_number j l)) (λ l. omega (arith, e, far_number j l));
        back_never_8 = λ j e. by_leb j hand (λ l. omega (arith, e, done_number j l)) (λ l. omega (arith, e, far_number j l));
        back_never_10 = λ j e. by_leb j hand (λ l. omega (arith, e, done_number j l)) (λ l. omega (arith, e, far_number j l));
        run_number = run_number;
      }

-- ---- any calls

module _ (b : Boot) (p : Booted b) where
  carried_called : (call : Call) (h : Host) → Carried b p h → Carried b p (called call h)
  unfolding called
  carried_called (run budget stop) h c = carried_run b p h c budget stop
  carried_called (back k) h c = carried_back b p h c k

  -- what every call keeps, after any calls
  pub carried_all : (calls : List Call) (h : Host) → Carried b p h → Carried b p (called_all calls h)
  unfolding called_all
  carried_all [] h c = c
  carried_all (call ∷ later) h c = carried_all later (called call h) (carried_called call h c)

  -- THE THEOREM
  pub takes_back : (calls : List Call) → TakesBack b (called_all calls (reset_to b))
  takes_back calls =
      let h = called_all calls (reset_to b) in
      carried_gives b p h (carried_all calls (reset_to b) (carried_start b p))
