-- What a look before a step shows, over plain values: that the run ends here, or that the step is one to take.
use Rattle.std.specs.Prelude.{◌≡◌, ℕ, ◌+◌, ◌<◌, ◌≤◌, Bool, true, false, cond, eqb, List}
use native.Mathlib.Omega.{arith}
use mathlib.Core.Path.{refl, sym, ap, ◌∙◌}
use mathlib.Core.Bool.{true≢false}
use borrow.Author.Tests.{eqb-true, eqb-false}
use Rattle.ring.specs.Machine.{Forward}
use Rattle.ring.specs.Run.{Config, ended}
use Rattle.ring.specs.Run as ring
use Rattle.ring.proofs.Run.{Reached, reached_halts, reached_spent}
use Rattle.tlb.specs.Doubled.{doubled_in}
use Rattle.tlb.specs.declared.Row.{Row}
use Rattle.state.specs.declared.machine.Settings.{Settings}
use Rattle.meets.specs.Meets.{meets_two_of}
use Rattle.meets.proofs.Quiet.{meets_one}
use Rattle.held.specs.Core.{core_in}
use Rattle.step.specs.Parts.{ahead_of}
use Rattle.step.specs.Step.{halts_of}
use Rattle.step.specs.Tick.{tick_of}
use Rattle.step.proofs.Ticks.{ahead_is}
use Rattle.state.specs.declared.machine.Core.{Core}
use Rattle.turn.specs.Buffers.{Beside, roms_in}
use Rattle.turn.specs.Turn.{lent_from, world_held}
use Rattle.turn.specs.declared.Parts.{Parts}
use Rattle.run.specs.Run.{reason_of}
use Rattle.look.specs.Look.{look_of}
use Rattle.look.specs.declared.Stop.TheVariants.{Budget, TwoMatches}
use Rattle.look.specs.declared.Look.{Look}

-- what the loop asks is what the definition says
pub halts_ahead : (p : Parts) (settings : Settings) (b : Beside) →
    meets_two_of (ahead_of (core_in p.core) p.held p.words) p.regs p.rows (lent_from b) ≡ halts_of (roms_in b) (world_held p settings b)
unfolding tick_of
halts_ahead p settings b =
    ap (λ (core : Core). meets_two_of core p.regs p.rows (lent_from b)) (ahead_is (core_in p.core) p.held p.words settings p.regs p.rows b.ram b.paper)

pub single_halts : (p : Parts) (settings : Settings) (b : Beside) → doubled_in p.rows ≡ false → halts_of (roms_in b) (world_held p settings b) ≡ false
single_halts p settings b not-doubled = sym (halts_ahead p settings b) ∙ meets_one _ p.regs p.rows (lent_from b) not-doubled

-- where the next look is, after a write to the table
pub record NextLook (rows : List Row) (steps budget limit : ℕ) : Type 0 where
  pub below : steps ≤ limit
  pub most : limit ≤ budget
  pub single : steps < limit → doubled_in rows ≡ false

pub next_look : (rows : List Row) (steps budget limit : ℕ) → steps ≤ budget → limit ≡ cond (doubled_in rows) steps budget → NextLook rows steps budget limit
next_look rows steps budget limit few is = go (doubled_in rows) refl is
  where
    go : (d : Bool) → doubled_in rows ≡ d → limit ≡ cond d steps budget → NextLook rows steps budget limit
    go true e l = record { below = omega arith; most = omega arith; single = λ h. absurd (omega arith) }
    go false e l = record { below = omega arith; most = omega arith; single = λ _. e }

-- ---- a look

looks : {A : Type 0} {look other : Look} → look ≡ other → look.ends ≡ true → other.ends ≡ false → A
looks is on off = absurd (true≢false (sym on ∙ ap (λ (l : Look). l.ends) is ∙ off))

-- the step is taken: there is budget left, it meets no two matches, and the next look stands where it must
pub record Goes (rows : List Row) (halts : Bool) (steps budget limit : ℕ) : Type 0 where
  pub left : steps < budget
  pub once : halts ≡ false
  pub next : NextLook rows (steps + 1) budget limit

module _ (rows : List Row) (steps limit budget : ℕ) (halts : Bool) (look : Look) (is : look ≡ look_of steps limit budget halts) (at : NextLook rows steps budget limit) where
  -- the run ends here
  module _ (F : Forward) (n : ℕ) (stop : Bool) (c₀ here : Config F) (reached : Reached F n budget stop c₀ steps here) (halts-is : F.halts here.state ≡ halts) where
    pub look_ends : look.ends ≡ true → ring.run F n budget stop c₀ ≡ ended here steps (reason_of look.why)
    look_ends on = go (eqb steps limit) (eqb steps budget) halts refl refl refl is
      where
        go : (a b h : Bool) → eqb steps limit ≡ a → eqb steps budget ≡ b → halts ≡ h →
            look ≡ cond a (cond b (record { ends = true; why = Budget; limit = limit }) (cond h (record { ends = true; why = TwoMatches; limit = limit }) (record { ends = false; why = Budget; limit = steps + 1 })))
            (record { ends = false; why = Budget; limit = limit }) →
            ring.run F n budget stop c₀ ≡ ended here steps (reason_of look.why)
        go true true h ea eb eh l =
            reached_spent F n budget stop c₀ steps here (eqb-true steps budget eb) reached
            ∙ ap (λ (x : Look). ended here steps (reason_of x.why)) (sym l)
        go true false true ea eb eh l =
            let apart : steps ≡ budget → ⊥ = eqb-false steps budget eb in
            reached_halts F n budget stop c₀ steps here (omega (arith, at.below, at.most)) reached (halts-is ∙ eh)
            ∙ ap (λ (x : Look). ended here steps (reason_of x.why)) (sym l)
        go true false false ea eb eh l = looks l on refl
        go false b h ea eb eh l = looks l on refl

  module _ (one : doubled_in rows ≡ false → halts ≡ false) where
    pub look_goes : look.ends ≡ false → Goes rows halts steps budget look.limit
    look_goes off = go (eqb steps limit) (eqb steps budget) halts refl refl refl is
      where
        ends : {other : Look} {A : Type 0} → look ≡ other → other.ends ≡ true → A
        ends l on = absurd (true≢false (sym on ∙ ap (λ (x : Look). x.ends) (sym l) ∙ off))

        go : (a b h : Bool) → eqb steps limit ≡ a → eqb steps budget ≡ b → halts ≡ h →
            look ≡ cond a (cond b (record { ends = true; why = Budget; limit = limit }) (cond h (record { ends = true; why = TwoMatches; limit = limit }) (record { ends = false; why = Budget; limit = steps + 1 })))
            (record { ends = false; why = Budget; limit = limit }) →
            Goes rows halts steps budget look.limit
        go true true h ea eb eh l = ends l refl
        go true false true ea eb eh l = ends l refl
        go true false false ea eb eh l =
            let apart : steps ≡ budget → ⊥ = eqb-false steps budget eb in
            let then : look.limit ≡ steps + 1 = ap (λ (x : Look). x.limit) l in
            let left : steps < budget = omega (arith, at.below, at.most) in
            record { left = left; once = eh; next = record { below = omega arith; most = omega arith; single = λ h. absurd (omega arith) } }
        go false b h ea eb eh l =
            let apart : steps ≡ limit → ⊥ = eqb-false steps limit ea in
            let then : look.limit ≡ limit = ap (λ (x : Look). x.limit) l in
            let more : steps < limit = omega (arith, at.below) in
            record {
              left = omega (arith, at.most);
              once = one (at.single more);
              next = record { below = omega arith; most = omega (arith, at.most); single = λ _. at.single more };
            }
