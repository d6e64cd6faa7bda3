-- What a done run says of itself is so: it stands where that many steps lead, and its reason is why it took no more.
use Prim.Native.Nat.{ℕ, suc, ◌-◌, ◌^◌, ◌≤◌, ◌<◌}
use mathlib.Core.Path.{◌≡◌, refl, sym, ap, subst}
use mathlib.Core.Bool.{Bool, true, false, not, false≢true}
use mathlib.Core.Logic.{◌⊎◌, inl, inr}
use native.Mathlib.Decide.{ℕ_discrete}
use native.Mathlib.Omega.{arith}
use borrow.Author.Tests.{leb-true, eqb-false, ne_eqb}
use lib.Dec.{eqb}
use Rattle.word.proofs.Cond.{and_true}
use Rattle.ring.specs.Machine.{iterate}
use Rattle.ring.specs.Run.{Why, Ran, spent, excepted, halted}
use Rattle.journal.specs.Journal.{slots_of}
use Rattle.state.specs.Layout.{bytes_of, machine_of}
use Rattle.state.specs.declared.machine.Journal.{Journal}
use Rattle.good.specs.Good.{machine_in}
use Rattle.step.specs.World.{World}
use Rattle.step.specs.Step.{raises_of}
use Rattle.turn.specs.Buffers.{Buffers, roms_in}
use Rattle.run.specs.Run.{forward, config_of}
use Rattle.answer.specs.Answer.{reason_number, reason_of, steps_of, packed_of, done_with}
use Rattle.accepted.specs.After.{world_from, buffers_after}
use Rattle.accepted.specs.Left.{Left, left_of}
use Rattle.forward.specs.Run.{reason_named, ran_of, done_run, run_leaves}
use Rattle.ring.proofs.Steps.{Steps, run_steps}
use Rattle.forward.proofs.Theorems.{run_number, number_0, no_other, refused_same, done_is}

-- the world of an image with what is lent, k steps later: no journal, no budget and no stop
abbrev pub world_later : Buffers → ℕ → World
world_later b k = iterate (forward (roms_in b.beside)) k (world_from b)

-- does the step from there enter an exception
abbrev pub raises_later : Buffers → ℕ → Bool
raises_later b k = raises_of (roms_in b.beside) (world_later b k)

-- does a run halt before the step from there: document 02, L5, "meets two matches"
abbrev pub halts_later : Buffers → ℕ → Bool
halts_later b k = (forward (roms_in b.beside)).halts (world_later b k)

-- Of what a run leaves, with the steps that it answers. Image, RAM and paper are those of that many steps. A run that says that its budget is spent took all
-- of it; one that says that an exception ended it was asked to stop there, and its last step entered one; and a step that enters one, if that is asked, is the last.
-- Whatever the reason, none of its steps meets two matches; one that says that it stopped before two has budget left, and the step from where it stands meets them.
pub record RunSays (b : Buffers) (budget stop : ℕ) (left : Left) : Type 0 where
  pub few : steps_of left.answer ≤ budget
  pub small : steps_of left.answer < 2 ^ 32
  pub image_is : (mark : Journal) × (left.buffers.image ≡ bytes_of (machine_in (world_later b (steps_of left.answer)) mark))
  pub ram_is : left.buffers.beside.ram ≡ (world_later b (steps_of left.answer)).ram
  pub paper_is : left.buffers.beside.paper ≡ (world_later b (steps_of left.answer)).paper
  pub why : (reason_of left.answer ≡ 1) ⊎ ((reason_of left.answer ≡ 2) ⊎ (reason_of left.answer ≡ 3))
  pub all : reason_of left.answer ≡ 1 → steps_of left.answer ≡ budget
  pub last : reason_of left.answer ≡ 2 →
      (stop ≡ 0 → ⊥) × ((0 < steps_of left.answer) × (raises_later b (steps_of left.answer - 1) ≡ true))
  pub first : (stop ≡ 0 → ⊥) → (i : ℕ) → i < steps_of left.answer → raises_later b i ≡ true →
      (suc i ≡ steps_of left.answer) × (reason_of left.answer ≡ 2)
  pub clear : (i : ℕ) → i < steps_of left.answer → halts_later b i ≡ false
  pub met : reason_of left.answer ≡ 3 → (steps_of left.answer < budget) × (halts_later b (steps_of left.answer) ≡ true)

-- the three reasons of a run have the numbers that the documents give them, and no other
abbrev numbered : Why → ℕ
numbered why = reason_number (reason_named why)

named : (why : Why) → (numbered why ≡ 1) ⊎ ((numbered why ≡ 2) ⊎ (numbered why ≡ 3))
named spent = inl refl
named excepted = inr (inl refl)
named halted = inr (inr refl)

is_spent : (why : Why) → numbered why ≡ 1 → why ≡ spent
is_spent spent e = refl
is_spent excepted e = absurd (omega arith)
is_spent halted e = absurd (omega arith)

is_excepted : (why : Why) → numbered why ≡ 2 → why ≡ excepted
is_excepted spent e = absurd (omega arith)
is_excepted excepted e = refl
is_excepted halted e = absurd (omega arith)

is_halted : (why : Why) → numbered why ≡ 3 → why ≡ halted
is_halted spent e = absurd (omega arith)
is_halted excepted e = absurd (omega arith)
is_halted halted e = refl

asked : (t : Bool) → not t ≡ true → t ≡ false
asked true e = absurd (false≢true e)
asked false e = refl

module _ (b : Buffers) (budget stop : ℕ) where
  -- of any run that keeps the laws of a run
  says_of : (r : Ran (forward (roms_in b.beside))) → budget ≤ 1000000 →
      Steps (forward (roms_in b.beside)) budget (not (eqb stop 0)) (world_from b) r →
      RunSays b budget stop (left_of (done_with r.taken (reason_named r.reason)) (buffers_after b.beside r.config.state r.config.side r.config.ring))
  says_of r most s =
      let g = r.config.ring in
      let mark : Journal = record { on_hand = g.hand; next_slot = g.next } in
      record {
        few = s.few;
        small = omega (arith, s.few, most);
        image_is = (mark, ap (λ (w : World). bytes_of (machine_in w mark)) s.state);
        ram_is = ap (λ (w : World). w.ram) s.state;
        paper_is = ap (λ (w : World). w.paper) s.state;
        why = named r.reason;
        all = λ e. s.all (is_spent r.reason e);
        last = λ e. let l = s.last (is_excepted r.reason e) in (eqb-false stop 0 (asked (eqb stop 0) l.0), l.1);
        first = λ on i l e.
            let wanted : not (eqb stop 0) ≡ true = ap not (ne_eqb stop 0 on) in
            let h = s.first i l (and_true wanted e) in
            (h.0, ap numbered h.1);
        clear = s.clear;
        met = λ e. s.met (is_halted r.reason e);
      }

  done_says : budget ≤ 1000000 → RunSays b budget stop (done_run b budget stop)
  unfolding done_run
  done_says most =
      let roms = roms_in b.beside in
      says_of (ran_of b budget stop) most
      (run_steps (forward roms) (slots_of b.beside.journal) budget (not (eqb stop 0)) (config_of roms (machine_of b.image) b.beside))

  -- THE THEOREM
  pub run_says : run_number b budget stop ≡ 0 → RunSays b budget stop (run_leaves b budget stop)
  run_says e =
      let t = (number_0 b budget stop).0 e in
      subst (λ (l : Left). RunSays b budget stop l) (sym (done_is b budget stop e)) (done_says (leb-true budget 1000000 t.1.1.1.1.1.0))

  -- done or refused, the answer fits in the 64 bits that it is packed in
  pub packed_fits : packed_of (run_leaves b budget stop).answer < 2 ^ 64
  packed_fits = by (ℕ_discrete number 0)
    where
      left : Left
      left = run_leaves b budget stop

      number : ℕ
      number = run_number b budget stop

      small : number ≤ 10
      small = no_other b budget stop

      fits : (reason_of left.answer ≡ 1) ⊎ ((reason_of left.answer ≡ 2) ⊎ (reason_of left.answer ≡ 3)) → steps_of left.answer < 2 ^ 32 → packed_of left.answer < 2 ^ 64
      fits (inl e) h = omega (arith, small, e, h)
      fits (inr (inl e)) h = omega (arith, small, e, h)
      fits (inr (inr e)) h = omega (arith, small, e, h)

      by : Dec (number ≡ 0) → packed_of left.answer < 2 ^ 64
      by (yes e) = let s = run_says e in fits s.why s.small
      by (no h) =
          let u = refused_same b budget stop h in
          omega (arith, small, u.no_steps, u.no_reason)
