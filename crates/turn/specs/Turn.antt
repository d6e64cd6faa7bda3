-- One step with its record: what is asked of what a run holds and is lent, and all that a turn of the loop leaves.
use Rattle.std.specs.Prelude.{ℕ, zero, suc, ◌^◌, ◌≤◌, ◌<◌, ◌≡◌, List, length}
use Rattle.word.specs.Sizes.{record_size}
use Rattle.ring.specs.Slots.{next_slot, written}
use Rattle.journal.specs.Journal.{slots_of, ring_of, Ready}
use Rattle.clock.specs.Tick.{time_of}
use Rattle.clock.specs.declared.Clock.{Clock}
use Rattle.state.specs.declared.machine.Journal.{Journal}
use Rattle.state.specs.declared.machine.Settings.{Settings}
use Rattle.decide.specs.Lent.{Lent, lent_of}
use Rattle.decide.specs.declared.effect.Effect.{Effect}
use Rattle.held.specs.Board.{board_of, Told}
use Rattle.held.specs.Core.{core_in}
use Rattle.held.specs.declared.Held.{Held}
use Rattle.step.specs.World.{World, world_of}
use Rattle.step.specs.Step.{effect_in, step_of}
use Rattle.indexed.specs.Ahead.{tag_of, onward_of}
use Rattle.marks.specs.Index.{ahead}
use Rattle.frames.specs.Bytes.{whole}
use Rattle.marks.specs.Steps.{forgotten_of, below_in, kept_of, marked_of}
use Rattle.turn.specs.Buffers.{Beside, roms_in}
use Rattle.turn.specs.declared.Parts.{Parts}

-- ---- aids to proofs: nothing that a reader must believe

abbrev pub lent_from : Beside → Lent
lent_from b = lent_of b.execution b.bootstrap b.ram

-- what the record and the tick ask
pub record Fit (core : List ℕ) (held : Held) (words paper journal : List ℕ) (mark : Journal) : Type 0 where
  pub fourteen : length core ≡ 14
  pub told : Told held words
  pub short : length paper ≤ 65536
  pub ready : Ready journal mark

-- the clock of a step and the one before it, of 64 bits
pub record Onward (before after : Clock) : Type 0 where
  pub small : time_of before < 2 ^ 64
  pub next : time_of after ≡ next_slot whole (time_of before)

-- the index with the oldest record forgotten, which the step at this clock goes over
abbrev pub forgotten_in : Journal → List ℕ → Clock → List ℕ → List ℕ
forgotten_in mark journal clock x = forgotten_of (slots_of journal) (ring_of mark journal) (time_of clock) x

-- what the record of a step keeps of that index, and that index with the step marked: with no slots neither is worked out
abbrev pub kept_by : ℕ → ℕ → ℕ → Effect → List ℕ → ℕ
kept_by zero hand time e x = 0
kept_by (suc m) hand time e x = kept_of time (below_in (suc m) hand) e x

abbrev pub kept_in : Journal → List ℕ → Clock → Effect → List ℕ → ℕ
kept_in mark journal clock e x = kept_by (slots_of journal) mark.on_hand (time_of clock) e (forgotten_in mark journal clock x)

abbrev pub marked_by : ℕ → ℕ → Effect → List ℕ → List ℕ → List ℕ
marked_by zero time e ram x = x
marked_by (suc m) time e ram x = marked_of time e ram x

abbrev pub marked_in : Journal → List ℕ → Clock → Effect → List ℕ → List ℕ → List ℕ
marked_in mark journal clock e ram x = marked_by (slots_of journal) (time_of clock) e ram (forgotten_in mark journal clock x)

-- the world of the parts that a run holds
abbrev pub world_held : Parts → Settings → Beside → World
world_held p settings b = world_of (core_in p.core) (board_of p.held settings p.words) p.regs p.rows b.ram b.paper

-- from the parts and buffers of a turn's start, with the effect of its step, to those that it leaves
pub record TurnIs (settings : Settings) (p : Parts) (b : Beside) (e : Effect) (p' : Parts) (b' : Beside) : Type 0 where
  pub world_is : world_held p' settings b' ≡ step_of (roms_in b) (world_held p settings b)
  pub effect_is : e ≡ effect_in (roms_in b) (world_held p settings b)
  pub ring_is :
      let s = world_held p settings b in
      let g = ring_of p.mark b.journal in
      let n = slots_of b.journal in
      ring_of p'.mark b'.journal ≡ written record_size n ((ahead (roms_in b)).note (tag_of (ahead (roms_in b)) n g s b.index) s) g
  pub index_is :
      b'.index ≡ onward_of (ahead (roms_in b)) (slots_of b.journal) (ring_of p.mark b.journal) (world_held p settings b) b.index
  pub told : Told p'.held p'.words
  pub fourteen : length p'.core ≡ 14
