-- What seek's answers, and those of the call last_write, say of the states themselves. `ago k` is the state k steps before the present one, and `hand` of these
-- steps are on hand.
use Rattle.std.specs.Prelude.{ℕ, zero, suc, ◌-◌, ◌<◌, ◌≡◌, ◌≢◌, ◌↔◌, true, cond, List, [], ◌∷◌, eqb, length, replicate, Option, Some, None}
use Rattle.word.specs.Lists.{tabulate, flat}
use Rattle.word.specs.Big.{word_bytes}
use Rattle.memory.specs.Memory.{load_at}
use Rattle.ring.specs.Machine.{iterate}
use Rattle.ring.specs.Calls.{net}
use Rattle.state.specs.Layout.{machine_of}
use Rattle.step.specs.World.{World}
use Rattle.run.specs.Run.{forward}
use Rattle.answer.specs.Answer.{number_of, reason_of, steps_of, Answer}
use Rattle.accepted.specs.After.{world_from}
use Rattle.demand3.specs.Demand3.{Host, without_roms, back_next, Boot, roms_at, reset_to, world_at}
use Rattle.seek.specs.declared.Change.{Change}
use Rattle.lastwrite.specs.LastWrite.{word_fits, place_of, last_write_answer, last_write_bytes}

-- the word of RAM at a place, as the machine reads it
abbrev pub word_at : World → ℕ → ℕ
word_at w place = load_at 4 w.ram place

abbrev pub pc_at : World → ℕ
pc_at w = w.cpu.core.pc

module _ (ago : ℕ → World) (hand : ℕ) where
  -- the newest step but k changed the word at `place` from old to new, and no newer one changed it: 0 is the newest
  pub record LastWrite (place k old new : ℕ) : Type 0 where
    pub within : k < hand
    pub before : old ≡ word_at (ago (suc k)) place
    pub after : new ≡ word_at (ago k) place
    pub differ : old ≢ new
    pub newer : (j : ℕ) → j < k → word_at (ago (suc j)) place ≡ word_at (ago j) place

  -- no step on hand changed it
  abbrev pub NoWrite : ℕ → Type 0
  NoWrite place = (k : ℕ) → k < hand → word_at (ago (suc k)) place ≡ word_at (ago k) place

  -- the same of the step so counted from 1
  abbrev pub Wrote : ℕ → (step old new : ℕ) → Type 0
  Wrote place zero old new = ⊥
  Wrote place (suc k) old new = LastWrite place k old new

  -- None says that no step on hand changed the word
  abbrev pub Tells : ℕ → Option Change → Type 0
  Tells place None = NoWrite place
  Tells place (Some c) = Wrote place c.step c.old c.new

  -- the PCs that the steps on hand were made at, the newest first
  abbrev pub pcs_ago : List ℕ
  pcs_ago = tabulate hand (λ (i : ℕ). pc_at (ago (suc i)))

  -- ---- the steps that last_write reports, and the 16 bytes that it writes: `back k` is the state that taking back k leaves

  module _ (back : ℕ → World) (place : ℕ) where
    -- 0: "none on hand"
    pub record SaysNone (bytes : List ℕ) : Type 0 where
      pub none : NoWrite place
      pub zeros : bytes ≡ replicate 16 0

    -- k + 1: "the latest step on hand that altered that word, with old and new value". Taking back as many stands the machine just before that step, and
    -- one fewer just after it
    pub record SaysLast (k : ℕ) (bytes : List ℕ) : Type 0 where
      pub old : ℕ
      pub new : ℕ
      pub last : LastWrite place k old new
      -- the clock as the step left it, "(after its tick)"
      pub words : bytes ≡ flat word_bytes ((ago k).board.clock.high ∷ (ago k).board.clock.low ∷ old ∷ new ∷ [])
      pub back_old : word_at (back (suc k)) place ≡ old
      pub back_new : word_at (back k) place ≡ new

    abbrev pub Says : ℕ → List ℕ → Type 0
    Says zero bytes = SaysNone bytes
    Says (suc k) bytes = SaysLast k bytes

-- after calls from a reset: where the machine stood k steps ago, of the steps run less those taken back
abbrev pub ago_in : Boot → Host → ℕ → World
ago_in b h k = iterate (forward (roms_at b)) (net h.events - k) (world_at (reset_to b))

-- how many steps are on hand
abbrev pub hand_in : Host → ℕ
hand_in h = (machine_of h.buffers.image).journal.on_hand

-- where a take-back made next would leave the machine
abbrev pub back_at : Host → ℕ → World
back_at h k = world_from (back_next h k).buffers

-- last_write made next, with an answer buffer of so many bytes: it is lent all but the ROMs
abbrev pub ask_next : Host → (address room : ℕ) → Answer
ask_next h address room = last_write_answer (without_roms h.buffers) address room

-- what it leaves in the answer buffer, from the bytes before
abbrev pub tell_next : Host → ℕ → List ℕ → List ℕ
tell_next h address before = last_write_bytes (without_roms h.buffers) address before

-- THE CALL last_write, of where calls after a done reset led
pub record TellsLast (b : Boot) (h : Host) : Type 0 where
  -- it is refused for the address and for the room of its answer alone
  pub number : (address room : ℕ) → number_of (ask_next h address room) ≡ cond (word_fits (length h.buffers.beside.ram) address) (cond (eqb room 16) 0 12) 11
  pub never_5 : (address room : ℕ) → number_of (ask_next h address room) ≡ 5 → ⊥
  pub never_8 : (address room : ℕ) → number_of (ask_next h address room) ≡ 8 → ⊥
  pub no_reason : (address room : ℕ) → reason_of (ask_next h address room) ≡ 0
  -- for every address of a word of RAM
  pub says : (address : ℕ) → word_fits (length h.buffers.beside.ram) address ≡ true → (before : List ℕ) → length before ≡ 16 →
      Says (ago_in b h) (hand_in h) (back_at h) (place_of address) (steps_of (ask_next h address (length before))) (tell_next h address before)
  -- "or 'none on hand' exactly if no such step exists"
  pub none_exactly : (address : ℕ) → word_fits (length h.buffers.beside.ram) address ≡ true → (room : ℕ) → room ≡ 16 →
      (steps_of (ask_next h address room) ≡ 0) ↔ NoWrite (ago_in b h) (hand_in h) (place_of address)
