-- Laws of a run, for any machine: how many steps it took, where it stands then, and why it ended.
use Prim.Native.Nat.{ℕ, zero, suc, ◌+◌, ◌-◌, ◌≤◌, ◌<◌}
use native.Mathlib.Omega.{arith}
use mathlib.Core.Path.{◌≡◌, refl, sym, ap, subst, ◌∙◌}
use mathlib.Core.Bool.{Bool, true, false, cond, ◌&&◌, false≢true, true≢false}
use Rattle.word.proofs.Cond.{both}
use Rattle.ring.specs.Machine.{Forward, iterate}
use Rattle.ring.specs.Run.{Why, Config, Ran, advance, ended, after, run, spent, excepted, halted}
use Rattle.ring.proofs.Run.{run_none, run_halts, run_stops, run_goes}

abbrev is_spent : Why → Bool
is_spent spent = true
is_spent excepted = false
is_spent halted = false

abbrev is_halted : Why → Bool
is_halted spent = false
is_halted excepted = false
is_halted halted = true

-- what each step with its record keeps, a run keeps
pub run_keeps : (F : Forward) (n : ℕ) (P : Config F → Type 0) → ((c : Config F) → P c → P (advance F n c)) → (b : ℕ) (stop : Bool) (c : Config F) → P c →
    P (run F n b stop c).config
unfolding run
run_keeps F n P on zero stop c h = h
run_keeps F n P on (suc b) stop c h =
    go (F.halts c.state) (stop && F.stops c.state) (run_keeps F n P on b stop (advance F n c) (on c h))
  where
    go : (t u : Bool) → P (run F n b stop (advance F n c)).config →
        P (cond t (ended c 0 halted) (cond u (ended (advance F n c) 1 excepted) (after 1 (run F n b stop (advance F n c))))).config
    go true u later = h
    go false true later = on c h
    go false false later = later

-- first one step and then k is k and then one
pub iterate_on : (F : Forward) (k : ℕ) (s : F.State) → iterate F k (F.step s) ≡ iterate F (suc k) s
iterate_on F zero s = refl
iterate_on F (suc k) s = ap F.step (iterate_on F k s)

-- Of a run with a budget of b from s. `state`: it stands where iterating the step as often as it says that it took steps leads. A run that has spent its
-- budget took all of it. One that an exception ended was asked to stop there, and its last step is one that enters an exception. A step that it was asked
-- to stop after is its last. `clear`: before no step that it took did the machine ask to halt, whatever the reason. `met`: one that halted has budget left, and
-- stands before a step that the machine asks to halt before.
pub record Steps (F : Forward) (b : ℕ) (stop : Bool) (s : F.State) (r : Ran F) : Type 0 where
  pub few : r.taken ≤ b
  pub state : r.config.state ≡ iterate F r.taken s
  pub all : r.reason ≡ spent → r.taken ≡ b
  pub last : r.reason ≡ excepted → (stop ≡ true) × ((0 < r.taken) × (F.stops (iterate F (r.taken - 1) s) ≡ true))
  pub first : (i : ℕ) → i < r.taken → (stop && F.stops (iterate F i s)) ≡ true → (suc i ≡ r.taken) × (r.reason ≡ excepted)
  pub clear : (i : ℕ) → i < r.taken → F.halts (iterate F i s) ≡ false
  pub met : r.reason ≡ halted → (r.taken < b) × (F.halts (iterate F r.taken s) ≡ true)

module _ (F : Forward) (n : ℕ) where
  steps_none : (stop : Bool) (c : Config F) → Steps F 0 stop c.state (ended c 0 spent)
  steps_none stop c =
      record {
        few = omega arith;
        state = refl;
        all = λ e. refl;
        last = λ e. absurd (true≢false (ap is_spent e));
        first = λ i l e. absurd (omega arith);
        clear = λ i l. absurd (omega arith);
        met = λ e. absurd (false≢true (ap is_halted e));
      }

  module _ (b : ℕ) (stop : Bool) (c : Config F) where
    steps_halted : F.halts c.state ≡ true → Steps F (suc b) stop c.state (ended c 0 halted)
    steps_halted h =
        record {
          few = omega arith;
          state = refl;
          all = λ e. absurd (false≢true (ap is_spent e));
          last = λ e. absurd (true≢false (ap is_halted e));
          first = λ i l e. absurd (omega arith);
          clear = λ i l. absurd (omega arith);
          met = λ e. (omega arith, h);
        }

    steps_one : F.halts c.state ≡ false → (stop && F.stops c.state) ≡ true → Steps F (suc b) stop c.state (ended (advance F n c) 1 excepted)
    unfolding advance
    steps_one on e =
        let h = both stop (F.stops c.state) e in
        record {
          few = omega arith;
          state = refl;
          all = λ e. absurd (true≢false (sym (ap is_spent e)));
          last = λ e. (h.0, (omega arith, h.1));
          first = λ i l e. (omega arith, refl);
          clear = λ i l. let z : 0 ≡ i = omega arith in subst (λ (k : ℕ). F.halts (iterate F k c.state) ≡ false) z on;
          met = λ e. absurd (false≢true (ap is_halted e));
        }

    module _ (r : Ran F) (on : F.halts c.state ≡ false) (goes : (stop && F.stops c.state) ≡ false) (s : Steps F b stop (F.step c.state) r) where
      -- the step i + 1 from here is the step i from the next state
      stops_on : (i : ℕ) → F.stops (iterate F i (F.step c.state)) ≡ F.stops (iterate F (suc i) c.state)
      stops_on i = ap F.stops (iterate_on F i c.state)

      halts_on : (i : ℕ) → F.halts (iterate F i (F.step c.state)) ≡ F.halts (iterate F (suc i) c.state)
      halts_on i = ap F.halts (iterate_on F i c.state)

      last_on : r.reason ≡ excepted → (stop ≡ true) × ((0 < 1 + r.taken) × (F.stops (iterate F (1 + r.taken - 1) c.state) ≡ true))
      last_on e =
          let l = s.last e in
          let k : suc (r.taken - 1) ≡ 1 + r.taken - 1 = omega (arith, l.1.0) in
          (l.0, (omega arith, subst (λ (j : ℕ). F.stops (iterate F j c.state) ≡ true) k (sym (stops_on (r.taken - 1)) ∙ l.1.1)))

      first_on : (i : ℕ) → i < 1 + r.taken → (stop && F.stops (iterate F i c.state)) ≡ true → (suc i ≡ 1 + r.taken) × (r.reason ≡ excepted)
      first_on zero l e = absurd (false≢true (sym goes ∙ e))
      first_on (suc i) l e =
          let h = s.first i (omega arith) (ap (λ (t : Bool). stop && t) (stops_on i) ∙ e) in
          (omega (arith, h.0), h.1)

      clear_on : (i : ℕ) → i < 1 + r.taken → F.halts (iterate F i c.state) ≡ false
      clear_on zero l = on
      clear_on (suc i) l = sym (halts_on i) ∙ s.clear i (omega arith)

      met_on : r.reason ≡ halted → (1 + r.taken < suc b) × (F.halts (iterate F (1 + r.taken) c.state) ≡ true)
      met_on e =
          let h = s.met e in
          let k : suc r.taken ≡ 1 + r.taken = omega arith in
          (omega (arith, h.0), subst (λ (j : ℕ). F.halts (iterate F j c.state) ≡ true) k (sym (halts_on r.taken) ∙ h.1))

      steps_on : Steps F (suc b) stop c.state (after 1 r)
      steps_on =
          let more : suc r.taken ≡ 1 + r.taken = omega arith in
          record {
            few = omega (arith, s.few);
            state = s.state ∙ iterate_on F r.taken c.state ∙ ap (λ (k : ℕ). iterate F k c.state) more;
            all = λ e. let h = s.all e in omega (arith, h);
            last = last_on;
            first = first_on;
            clear = clear_on;
            met = met_on;
          }

  pub run_steps : (b : ℕ) (stop : Bool) (c : Config F) → Steps F b stop c.state (run F n b stop c)
  unfolding advance
  run_steps zero stop c = rw (run_none F n stop c) (steps_none stop c)
  run_steps (suc b) stop c = go (F.halts c.state) refl (stop && F.stops c.state) refl (run_steps b stop (advance F n c))
    where
      go : (t : Bool) → F.halts c.state ≡ t → (u : Bool) → (stop && F.stops c.state) ≡ u →
          Steps F b stop (F.step c.state) (run F n b stop (advance F n c)) → Steps F (suc b) stop c.state (run F n (suc b) stop c)
      go true h u e ih = rw (run_halts F n b stop c h) (steps_halted b stop c h)
      go false h true e ih = rw (run_stops F n b stop c h e) (steps_one b stop c h e)
      go false h false e ih = rw (run_goes F n b stop c h e) (steps_on b stop c (run F n b stop (advance F n c)) h e ih)

  -- What a run from c leaves, its journal too, is what one leaves that is given just the steps that it took as its budget, and is asked for no stop.
  abbrev pub Just : Config F → Ran F → Type 0
  Just c r = run F n r.taken false c ≡ ended r.config r.taken spent

  just_on : (c : Config F) (r : Ran F) → F.halts c.state ≡ false → Just (advance F n c) r → Just c (after 1 r)
  just_on c r on ih =
      let more : 1 + r.taken ≡ suc r.taken = omega arith in
      ap (λ (k : ℕ). run F n k false c) more ∙ run_goes F n r.taken false c on refl ∙ ap (λ (q : Ran F). after 1 q) ih

  pub run_just : (b : ℕ) (stop : Bool) (c : Config F) → Just c (run F n b stop c)
  run_just zero stop c = rw (run_none F n stop c) (run_none F n false c)
  run_just (suc b) stop c = go (F.halts c.state) refl (stop && F.stops c.state) refl (run_just b stop (advance F n c))
    where
      go : (t : Bool) → F.halts c.state ≡ t → (u : Bool) → (stop && F.stops c.state) ≡ u → Just (advance F n c) (run F n b stop (advance F n c)) →
          Just c (run F n (suc b) stop c)
      go true h u e ih = rw (run_halts F n b stop c h) (run_none F n false c)
      go false h true e ih = rw (run_stops F n b stop c h e) (just_on c (ended (advance F n c) 0 spent) h (run_none F n false (advance F n c)))
      go false h false e ih = rw (run_goes F n b stop c h e) (just_on c (run F n b stop (advance F n c)) h ih)
