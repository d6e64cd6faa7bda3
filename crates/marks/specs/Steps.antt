-- What the code does to the lent bytes of the index.
use Rattle.std.specs.Prelude.{◌≡◌, ℕ, zero, suc, ◌*◌, ◌/◌, ◌%◌, cond, not, List, map, length, ◌==◌, nat_lt}
use Rattle.word.specs.Sizes.{record_size}
use Rattle.memory.specs.Memory.{load_at}
use Rattle.ring.specs.Slots.{Ring, slot, slot_back}
use Rattle.decide.specs.declared.effect.Effect.{Effect}
use Rattle.record.specs.declared.Saved.{Saved}
use Rattle.record.specs.Layout.{record_of}
use Rattle.step.specs.Parts.{ram_after}
use Rattle.std.specs.Prelude.{None}
use Rattle.frames.specs.OnHand.{Touch}
use Rattle.frames.specs.Keep.{Kept, restored}
use Rattle.frames.specs.Bytes.{whole, replace_all_in, mark_all_in}
use Rattle.indexed.specs.Ahead.{frame_of, bare_of, distance_of}
use Rattle.marks.specs.Index.{places_of, noted_in, distance_in}

-- ---- aids to proofs: nothing that a reader must believe

-- what rows 1 and 10 leave: whole frames of RAM, and sixteen bytes for each
pub record FitsRam (ram index : List ℕ) : Type 0 where
  pub whole_frames : length ram % 4096 ≡ 0
  pub sixteen_each : length index ≡ 16 * (length ram / 4096)

abbrev pub bare_in : Saved → List Kept
bare_in s = map bare_of (noted_in s)

-- the index for the step at `time`: once the oldest record, if all slots are on hand, has dropped off
abbrev pub forgotten_of : ℕ → Ring → ℕ → List ℕ → List ℕ
forgotten_of zero g time x = x
forgotten_of (suc m) g time x =
    cond (nat_lt m g.hand) (replace_all_in (slot_back whole time (suc m)) (λ k. None) (bare_in (record_of (slot record_size g.bytes g.next)).saved) x) x

-- how many are on hand below the record of the next step, of n slots
abbrev pub below_in : ℕ → ℕ → ℕ
below_in zero hand = 0
below_in (suc m) hand = cond (nat_lt m hand) m hand

-- what the record of the step at `time` keeps
abbrev pub kept_of : ℕ → ℕ → Effect → List ℕ → ℕ
kept_of time below e x = distance_in (map (distance_of time below x) (places_of e))

abbrev pub touch_in : List ℕ → List ℕ → ℕ → Touch
touch_in ram after p = record { frame = frame_of p; changed = not (load_at 4 ram p == load_at 4 after p) }

-- the index with what the step at `time` changed
abbrev pub marked_of : ℕ → Effect → List ℕ → List ℕ → List ℕ
marked_of time e ram x = mark_all_in time (map (touch_in ram (ram_after e ram)) (places_of e)) x

-- the index once the newest step, at `time` with `hand` on hand, is taken back
abbrev pub given_back_of : ℕ → ℕ → Saved → List ℕ → List ℕ
given_back_of time hand s x = replace_all_in time (λ k. restored whole time hand k.saved) (bare_in s) x
