-- Document 02, L5, of the call: a run that stops before a step that meets two matches. And what any run leaves, the journal too, is what its steps alone leave.
use Prim.Native.Nat.{ℕ, suc, ◌-◌, ◌≤◌, ◌<◌}
use mathlib.Core.Path.{◌≡◌, sym, ap, subst, ◌∙◌}
use mathlib.Core.Bool.{true, not}
use native.Mathlib.Omega.{arith}
use borrow.Author.Tests.{leb-true, le-leb}
use lib.Dec.{eqb, leb}
use Rattle.word.specs.Lists.{Below}
use Rattle.ring.specs.Run.{Config, halted}
use Rattle.ring.specs.Run as ring
use Rattle.ring.proofs.Run.{run_halts}
use Rattle.ring.proofs.Steps.{run_steps, run_just}
use Rattle.journal.specs.Journal.{slots_of}
use Rattle.state.specs.Layout.{machine_of}
use Rattle.step.specs.World.{World, Roms}
use Rattle.turn.specs.Buffers.{Buffers, roms_in}
use Rattle.run.specs.Run.{forward, config_of}
use Rattle.answer.specs.declared.Reason.TheVariants.{BudgetSpent, TwoMatches}
use Rattle.answer.specs.Answer.{reason_of, steps_of, done_with}
use Rattle.accepted.specs.After.{world_from}
use Rattle.accepted.specs.Left.{Left, left_of}
use Rattle.forward.specs.Run.{ran_of, done_run, run_leaves}
use Rattle.forward.proofs.Theorems.{run_number, number_0, done_is}
use Rattle.forward.proofs.Steps.{world_later, halts_later, run_says}
use Rattle.forward.proofs.Keeps.{run_kept, run_read, run_again, stays}

abbrev config_in : (b : Buffers) → Config (forward (roms_in b.beside))
config_in b = config_of (roms_in b.beside) (machine_of b.image) b.beside

module _ (b : Buffers) (budget stop : ℕ) (number : run_number b budget stop ≡ 0) where
  -- FROM A STATE WHOSE STEP MEETS TWO MATCHES, with some budget: done, no step, every byte as it was
  pub run_met : 0 < budget → halts_later b 0 ≡ true → Below 256 b.image → run_leaves b budget stop ≡ left_of (done_with 0 TwoMatches) b
  run_met some meets small =
      let F = forward (roms_in b.beside) in
      let n = slots_of b.beside.journal in
      let more : budget ≡ suc (budget - 1) = omega arith in
      stays b budget stop number halted
      (ap (λ (k : ℕ). ring.run F n k (not (eqb stop 0)) (config_in b)) more ∙ run_halts F n (budget - 1) (not (eqb stop 0)) (config_in b) meets) small

module _ (b : Buffers) (budget stop : ℕ) (number : run_number b budget stop ≡ 0) where
  abbrev steps : ℕ
  steps = steps_of (run_leaves b budget stop).answer

  done_just : done_run b (steps_of (done_run b budget stop).answer) 0 ≡ left_of (done_with (steps_of (done_run b budget stop).answer) BudgetSpent) (done_run b budget stop).buffers
  unfolding done_run
  done_just =
      let F = forward (roms_in b.beside) in
      rw (run_just F (slots_of b.beside.journal) budget (not (eqb stop 0)) (config_in b))

  -- as many steps are a budget that is not refused
  just_number : run_number b steps 0 ≡ 0
  just_number =
      let t = (number_0 b budget stop).0 number in
      let most : budget ≤ 1000000 = leb-true budget 1000000 t.1.1.1.1.1.0 in
      let few = le-leb steps 1000000 (omega (arith, most, (run_says b budget stop number).few)) in
      (number_0 b steps 0).1 (t.0, (t.1.0, (t.1.1.0, (t.1.1.1.0, (t.1.1.1.1.0, (few, t.1.1.1.1.1.1))))))

  -- WHATEVER ENDED IT, a run leaves what a run with the budget of its steps and no stop leaves: image, RAM, paper, journal and index
  pub run_steps_only : run_leaves b steps 0 ≡ left_of (done_with steps BudgetSpent) (run_leaves b budget stop).buffers
  run_steps_only =
      done_is b steps 0 just_number
      ∙ subst (λ (l : Left). done_run b (steps_of l.answer) 0 ≡ left_of (done_with (steps_of l.answer) BudgetSpent) l.buffers) (sym (done_is b budget stop number)) done_just

  -- what is lent is bytes
  module _ (image_are : Below 256 b.image) (execution_are : Below 256 b.beside.execution) (bootstrap_are : Below 256 b.beside.bootstrap)
      (ram_are : Below 256 b.beside.ram) (paper_are : Below 256 b.beside.paper) where
    abbrev after : Buffers
    after = (run_leaves b budget stop).buffers

    done_later : (ran_of b budget stop).config.state ≡ world_later b (steps_of (done_run b budget stop).answer)
    unfolding done_run
    done_later = (run_steps (forward (roms_in b.beside)) (slots_of b.beside.journal) budget (not (eqb stop 0)) (config_in b)).state

    -- what a run leaves, read again, is the world so many steps later
    pub run_later : world_from after ≡ world_later b steps
    run_later =
        run_read b budget stop number image_are execution_are bootstrap_are ram_are paper_are
        ∙ subst (λ (l : Left). (ran_of b budget stop).config.state ≡ world_later b (steps_of l.answer)) (sym (done_is b budget stop number)) done_later

    -- A RUN FROM WHERE ONE STOPPED BEFORE TWO MATCHES stops there again, and changes nothing
    pub met_again : reason_of (run_leaves b budget stop).answer ≡ 3 → (more stop' : ℕ) → 0 < more → leb more 1000000 ≡ true →
        run_leaves after more stop' ≡ left_of (done_with 0 TwoMatches) after
    met_again e more stop' some most =
        let kept = run_kept b budget stop number image_are execution_are bootstrap_are ram_are paper_are in
        let meets : halts_later after 0 ≡ true =
        ap (λ (roms : Roms). (forward roms).halts (world_from after)) kept.roms_same
        ∙ ap (λ (w : World). (forward (roms_in b.beside)).halts w) run_later
        ∙ ((run_says b budget stop number).met e).1 in
        run_met after more stop' (run_again b budget stop number image_are execution_are bootstrap_are ram_are paper_are more stop' most) some meets kept.image_bytes
