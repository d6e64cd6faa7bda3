-- The clock k steps ago: the present one less k, modulo 2^64.
use Prim.Native.Nat.{ℕ, zero, suc, ◌+◌, ◌-◌, ◌/◌, ◌%◌, ◌^◌, ◌≤◌, ◌<◌}
use native.Mathlib.Omega.{arith}
use mathlib.Core.Path.{◌≡◌, sym, ap, ◌∙◌}
use Rattle.word.specs.Lists.{Below}
use Rattle.ring.specs.Slots.{next_slot, slot_back}
use Rattle.ring.specs.Machine.{iterate}
use Rattle.ring.proofs.Slots.{back_back}
use Rattle.ring.proofs.History.{iterate_good}
use Rattle.clock.specs.Tick.{time_of}
use Rattle.step.specs.World.{World, Roms}
use Rattle.good.proofs.Sound.{good_sound}
use Rattle.frames.specs.Bytes.{whole}
use Rattle.frames.proofs.Clocks.{back_none, next_back}
use Rattle.run.specs.Run.{forward}
use Rattle.back.specs.Back.{both}
use Rattle.back.specs.Allowed.{Framed}
use Rattle.back.proofs.Index.{framed_laws, index_laws}

module _ (roms : Roms) (execution : Below 256 roms.execution) (bootstrap : Below 256 roms.bootstrap) (frames : ℕ) (w₀ : World) (f : Framed roms frames w₀)
    (m : ℕ) where
  -- the state k steps ago, of m
  abbrev ago : ℕ → World
  ago k = iterate (forward roms) (m - k) w₀

  abbrev time : ℕ → ℕ
  time k = time_of (ago k).board.clock

  framed : (k : ℕ) → Framed roms frames (ago k)
  framed k = iterate_good (both roms) w₀ 0 (framed_laws roms execution bootstrap frames) f (m - k)

  small : (k : ℕ) → time k < whole
  small k = (index_laws roms execution bootstrap frames).small (ago k) (framed k)

  one_tick : (k : ℕ) → k < m → time k ≡ next_slot whole (time (suc k))
  one_tick k l =
      let e : m - k ≡ suc (m - suc k) = omega arith in
      ap (λ (j : ℕ). time_of (iterate (forward roms) j w₀).board.clock) e ∙ (index_laws roms execution bootstrap frames).ticks (ago (suc k)) (framed (suc k))

  pub time_back : (k : ℕ) → k ≤ m → k ≤ whole → time k ≡ slot_back whole (time 0) k
  time_back zero l h = sym (back_none whole (time 0) (small 0))
  time_back (suc k) l h =
      let plus : k + 1 ≡ suc k = omega arith in
      sym (next_back whole (time (suc k)) (small (suc k)))
      ∙ ap (λ (t : ℕ). slot_back whole t 1) (sym (one_tick k l) ∙ time_back k (omega arith) (omega arith))
      ∙ back_back whole (time 0) k 1 (small 0) (omega arith)
      ∙ ap (slot_back whole (time 0)) plus

  -- its two words
  pub time_words : (k : ℕ) → (time k / 2 ^ 32 ≡ (ago k).board.clock.high) × (time k % 2 ^ 32 ≡ (ago k).board.clock.low)
  time_words k =
      let low = (good_sound (ago k) (framed k).allowed.good).board.clock 1 (omega arith) in
      (omega (arith, low), omega (arith, low))
