-- What every call keeps: the bytes that are lent are those of a past of ring's, whose state is where iterating the step leads.
use Prim.Native.Nat.{ℕ, ◌+◌, ◌-◌, ◌*◌, ◌/◌}
use native.Mathlib.Omega.{arith}
use mathlib.Core.Path.{◌≡◌, refl, sym, ap, subst, ◌∙◌}
use mathlib.Core.Bool.{true}
use mathlib.Core.List.{List, [], ◌∷◌}
use borrow.Author.Tests.{eq-eqb}
use lib.ListN.{length}
use Rattle.ring.specs.Run.{Config}
use Rattle.ring.specs.Calls.{Event, ran, took, steps_run, steps_taken, net, Past}
use Rattle.ring.proofs.History.{Holds, Kept, kept_start}
use Rattle.journal.specs.Journal.{slots_of, ring_of}
use Rattle.state.specs.Layout.{bytes_of, machine_of}
use Rattle.state.specs.declared.machine.Machine.{Machine}
use Rattle.state.specs.declared.machine.Journal.{Journal}
use Rattle.rules.specs.Rules.{good_image}
use Rattle.step.specs.World.{World, Roms}
use Rattle.turn.specs.Buffers.{Beside, Buffers, roms_in, beside_after}
use Rattle.run.specs.Run.{forward, config_of}
use Rattle.back.specs.Back.{base, both}
use Rattle.back.specs.Allowed.{Allowed}
use Rattle.answer.specs.Lent.{ram_fits, roms_fit, paper_fits, journal_fits, index_fits}
use Rattle.indexed.proofs.Kept.{Indexed}
use Rattle.frames.proofs.IndexBytes.{index_long}
use Rattle.accepted.specs.After.{machine_after, buffers_after}
use Rattle.demand3.specs.Demand3.{Host, Boot, Booted, roms_at, reset_to, world_at}
use Rattle.accepted.proofs.Start.{few_slots}
use Rattle.accepted.proofs.End.{end_good}
use Rattle.accepted.proofs.End.{end_read}
use Rattle.demand3.proofs.Boot.{boot_image, boot_machine, boot_mark, frames, boot_framed, boot_laws, boot_besides, boot_indexed, later_allowed, later_long}

-- the past that a host's bytes are of
abbrev pub past_in : (b : Boot) → Config (forward (roms_at b)) → List Event → Past (both (roms_at b))
past_in b c events = record { config = c; events = events }

abbrev pub config_at : (b : Boot) → Host → Config (forward (roms_at b))
config_at b h = config_of (roms_at b) (machine_of h.buffers.image) h.buffers.beside

module _ (b : Boot) (p : Booted b) where
  abbrev pub KeptIn : ℕ → Config (forward (roms_at b)) → List Event → Type 0
  KeptIn n c events =
      Kept (both (roms_at b)) (world_at (reset_to b)) (length b.buffers.beside.journal) (Indexed (base (roms_at b)) (frames b p)) (boot_laws b p) (boot_framed b p)
      (boot_besides b p) n (past_in b c events)

  pub record Carried (h : Host) : Type 0 where
    pub kept : KeptIn (slots_of b.buffers.beside.journal) (config_at b h) h.events
    -- no call writes the ROMs
    pub roms_same : roms_in h.buffers.beside ≡ roms_at b
    -- the image says nothing but its machine
    pub image_is : h.buffers.image ≡ bytes_of (machine_of h.buffers.image)

  pub carried_start : Carried (reset_to b)
  carried_start =
      let w = world_at (reset_to b) in
      let journal = b.buffers.beside.journal in
      let n = slots_of journal in
      record {
        kept =
            subst (λ (mark : Journal). KeptIn n (record { state = w; side = (reset_to b).buffers.beside.index; ring = ring_of mark journal }) []) (sym (boot_mark b p))
            (kept_start (both (roms_at b)) w (length journal) (Indexed (base (roms_at b)) (frames b p)) (boot_laws b p) (boot_framed b p) (boot_besides b p) n
            (reset_to b).buffers.beside.index journal refl (omega arith) (boot_indexed b p));
        roms_same = refl;
        image_is = boot_image b p ∙ ap bytes_of (sym (boot_machine b p));
      }

  -- ---- what was kept, laid down in an image

  module _ (c : Config (forward (roms_at b))) (events : List Event) (k : KeptIn (slots_of b.buffers.beside.journal) c events) where
    pub state_allowed : Allowed (roms_at b) c.state
    state_allowed = subst (λ (w : World). Allowed (roms_at b) w) (sym k.holds.state) (later_allowed b p (net events))

    read : machine_of (bytes_of (machine_after c.state c.ring)) ≡ machine_after c.state c.ring
    read = end_read c.state c.ring (slots_of b.buffers.beside.journal) (few_slots b.buffers.beside.journal p.journal_fits) state_allowed.good k.holds.sound

    pub carry : (beside : Beside) → roms_in beside ≡ roms_at b → Carried (record { buffers = buffers_after beside c.state c.side c.ring; events = events })
    carry beside same =
        record {
          kept =
              subst (λ (m : Machine). KeptIn (slots_of b.buffers.beside.journal) (config_of (roms_at b) m (beside_after beside c.state c.side c.ring)) events)
              (sym read) k;
          roms_same = same;
          image_is = ap bytes_of (sym read);
        }

  -- ---- a call that reports no steps

  module _ (n : ℕ) (c : Config (forward (roms_at b))) (events : List Event) (k : KeptIn n c events) where
    abbrev HoldsAt : ℕ → Type 0
    HoldsAt m = Holds (both (roms_at b)) (world_at (reset_to b)) (length b.buffers.beside.journal) (Indexed (base (roms_at b)) (frames b p)) n m c

    none_ran : KeptIn n c (ran 0 ∷ events)
    none_ran =
        let e : net events ≡ steps_run events + 0 - steps_taken events = omega arith in
        record {
          holds = subst HoldsAt e k.holds;
          hand = omega (arith, k.hand, k.holds.sound.most);
          enough = omega (arith, k.enough);
        }

    none_took : KeptIn n c (took 0 ∷ events)
    none_took =
        let e : net events ≡ steps_run events - (steps_taken events + 0) = omega arith in
        record {
          holds = subst HoldsAt e k.holds;
          hand = omega (arith, k.hand);
          enough = omega (arith, k.enough);
        }

  module _ (h : Host) (c : Carried h) (buffers : Buffers) (steps : ℕ) (e : buffers ≡ h.buffers) (none : steps ≡ 0) where
    pub same_ran : Carried (record { buffers = buffers; events = ran steps ∷ h.events })
    same_ran =
        rw (e, none)
        (record {
          kept = none_ran (slots_of b.buffers.beside.journal) (config_at b h) h.events c.kept;
          roms_same = c.roms_same;
          image_is = c.image_is;
        })

    pub same_took : Carried (record { buffers = buffers; events = took steps ∷ h.events })
    same_took =
        rw (e, none)
        (record {
          kept = none_took (slots_of b.buffers.beside.journal) (config_at b h) h.events c.kept;
          roms_same = c.roms_same;
          image_is = c.image_is;
        })

  -- ---- rows 1 to 5 and 10 are passed

  pub record Accepted (h : Host) : Type 0 where
    pub slots_same : slots_of h.buffers.beside.journal ≡ slots_of b.buffers.beside.journal
    pub ram_fits : ram_fits (length h.buffers.beside.ram) ≡ true
    pub roms_fit : roms_fit (length h.buffers.beside.execution) (length h.buffers.beside.bootstrap) ≡ true
    pub paper_fits : paper_fits (length h.buffers.beside.paper) ≡ true
    pub journal_fits : journal_fits (length h.buffers.beside.journal) ≡ true
    pub index_fits : index_fits (length h.buffers.beside.ram) (length h.buffers.beside.index) ≡ true
    pub image_good : good_image h.buffers.image (length h.buffers.beside.paper) (length h.buffers.beside.journal) ≡ true

  pub accepted : (h : Host) → Carried h → Accepted h
  accepted h c =
      let k = c.kept in
      let lent = h.buffers.beside in
      let long = later_long b p (net h.events) in
      let ram = ap (λ (w : World). length w.ram) k.holds.state ∙ long.0 in
      let paper = ap (λ (w : World). length w.paper) k.holds.state ∙ long.1 in
      let slots : slots_of lent.journal ≡ slots_of b.buffers.beside.journal = ap (λ (l : ℕ). l / 512) k.holds.long in
      record {
        slots_same = slots;
        ram_fits = ap (λ (l : ℕ). ram_fits l) ram ∙ p.ram_fits;
        roms_fit = ap (λ (x : Roms). roms_fit (length x.execution) (length x.bootstrap)) c.roms_same ∙ p.roms_fit;
        paper_fits = ap (λ (l : ℕ). paper_fits l) paper ∙ p.paper_fits;
        journal_fits = ap (λ (l : ℕ). journal_fits l) k.holds.long ∙ p.journal_fits;
        index_fits =
            eq-eqb (length lent.index) (16 * (length lent.ram / 4096))
            (ap length k.holds.beside.bytes ∙ index_long (frames b p) _ ∙ ap (λ (l : ℕ). 16 * (l / 4096)) (sym ram));
        image_good =
            ap (λ (l : List ℕ). good_image l (length lent.paper) (length lent.journal)) c.image_is
            ∙ end_good (world_at h) (ring_of (machine_of h.buffers.image).journal lent.journal) (slots_of b.buffers.beside.journal)
            (few_slots b.buffers.beside.journal p.journal_fits) (state_allowed (config_at b h) h.events k).good k.holds.sound (sym slots);
      }
