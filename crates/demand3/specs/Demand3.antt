-- DEMAND 3, over the bytes that the host lends: what calls of run and take-back in any order come to after a done reset. Stated over demand 2's definition:
-- `iterate (forward roms)` is the step of document 01 iterated, with no journal, no budget and no stop.
use Rattle.std.specs.Prelude.{ℕ, ◌+◌, ◌/◌, ◌≤◌, ◌<◌, ◌≡◌, ◌↔◌, true, cond, List, [], ◌∷◌, leb, length}
use Rattle.word.specs.Lists.{Below}
use Rattle.word.specs.Sizes.{record_size}
use Rattle.ring.specs.Slots.{records_in}
use Rattle.ring.specs.Machine.{iterate}
use Rattle.ring.specs.Calls.{Event, ran, took, steps_run, steps_taken, net, held}
use Rattle.journal.specs.Journal.{slots_of, ring_of}
use Rattle.state.specs.Layout.{bytes_of, machine_of}
use Rattle.step.specs.World.{World, Roms}
use Rattle.turn.specs.Buffers.{Buffers, buffers_of, roms_in, with_roms}
use Rattle.indexed.specs.Index.{afresh}
use Rattle.good.specs.Good.{machine_in}
use Rattle.run.specs.Run.{forward}
use Rattle.back.specs.Back.{base, no_roms}
use Rattle.answer.specs.Answer.{number_of, steps_of}
use Rattle.answer.specs.Lent.{ram_fits, roms_fit, paper_fits, journal_fits, index_fits}
use Rattle.reset.specs.Reset.{reset_answer, reset_image, reset_index}
use Rattle.accepted.specs.After.{world_from}
use Rattle.accepted.specs.Left.{Left}
use Rattle.forward.specs.Run.{run_leaves}
use Rattle.backward.specs.Back.{back_leaves}

-- ---- the calls

-- run is given a budget and whether to stop at exceptions, take-back a count: any numbers
pub data Call : Type 0 where
  run : ℕ → ℕ → Call
  back : ℕ → Call

-- What the host lends from call to call, as the calls leave it, with what their answers reported: the steps of each, the last call first.
pub record Host : Type 0 where
  pub buffers : Buffers
  pub events : List Event

-- run is lent "all six buffers", and the index
abbrev pub run_next : Host → ℕ → ℕ → Left
run_next h budget stop = run_leaves h.buffers budget stop

-- "take-back all but the ROMs"
abbrev pub without_roms : Buffers → Buffers
without_roms b = record { image = b.image; beside = with_roms no_roms b.beside }

abbrev pub back_next : Host → ℕ → Left
back_next h k = back_leaves (without_roms h.buffers) k

abbrev pub ran_to : Host → Left → Host
ran_to h left = record { buffers = left.buffers; events = ran (steps_of left.answer) ∷ h.events }

-- what take-back leaves, with the host's ROMs, which it was not lent
abbrev pub back_in : Host → Buffers → Buffers
back_in h b = record { image = b.image; beside = with_roms (roms_in h.buffers.beside) b.beside }

abbrev pub took_to : Host → Left → Host
took_to h left = record { buffers = back_in h left.buffers; events = took (steps_of left.answer) ∷ h.events }

-- Each call does what its own statement says. A refused one counts for none: it reports 0 steps.
unfoldable pub called : Call → Host → Host
called (run budget stop) h = ran_to h (run_next h budget stop)
called (back k) h = took_to h (back_next h k)

-- in order, the first at the head
unfoldable pub called_all : List Call → Host → Host
called_all [] h = h
called_all (c ∷ later) h = called_all later (called c h)

-- ---- the premises

-- what the host lends, and reset's three parameters
pub record Boot : Type 0 where
  pub buffers : Buffers
  pub scale : ℕ
  pub delay : ℕ
  pub installed : ℕ

-- lengths that rows 1 to 4 and 10 allow, bytes, and a reset that was done; the journal's own bytes and the index's do not matter
pub record Booted (b : Boot) : Type 0 where
  pub ram_fits : ram_fits (length b.buffers.beside.ram) ≡ true
  pub roms_fit : roms_fit (length b.buffers.beside.execution) (length b.buffers.beside.bootstrap) ≡ true
  pub paper_fits : paper_fits (length b.buffers.beside.paper) ≡ true
  pub journal_fits : journal_fits (length b.buffers.beside.journal) ≡ true
  -- row 10, with the RAM that run and take-back are lent
  pub index_fits : index_fits (length b.buffers.beside.ram) (length b.buffers.beside.index) ≡ true
  pub execution_bytes : Below 256 b.buffers.beside.execution
  pub bootstrap_bytes : Below 256 b.buffers.beside.bootstrap
  pub ram_bytes : Below 256 b.buffers.beside.ram
  pub paper_bytes : Below 256 b.buffers.beside.paper
  pub reset_done : number_of (reset_answer b.buffers.image b.buffers.beside.index b.scale b.delay b.installed) ≡ 0

abbrev pub roms_at : Boot → Roms
roms_at b = roms_in b.buffers.beside

-- reset is given the image and the index alone: "RAM, paper and journal are left"
abbrev pub reset_to : Boot → Host
reset_to b =
    let lent = b.buffers.beside in
    let image = reset_image b.buffers.image lent.index b.scale b.delay b.installed in
    let index = reset_index b.buffers.image lent.index b.scale b.delay b.installed in
    record { buffers = buffers_of image lent.execution lent.bootstrap lent.ram lent.paper lent.journal index; events = [] }

-- ---- the conclusions

-- the machine of the image but for its two journal words, RAM and paper
abbrev pub world_at : Host → World
world_at h = world_from h.buffers

-- the world that iterating the step leads to, from where the reset left it: as many times as the answers say that steps were run less those taken back
abbrev pub world_due : Boot → Host → World
world_due b h = iterate (forward (roms_at b)) (net h.events) (world_at (reset_to b))

-- "Each step writes one 256-byte record at next slot; [..] on hand rises by one up to the number of slots. [..] Taking back k lowers on hand by k"
abbrev pub hand_due : Boot → Host → ℕ
hand_due b h = held (slots_of b.buffers.beside.journal) h.events

-- Document 02, L6: "the index [..] worked out afresh from the journal". It looks at the image's machine, RAM, paper and the records on hand, the newest first:
-- the words of RAM say which of a record's places its step changed, and undoing it gives the state for the next.
abbrev pub index_of : Buffers → List ℕ
index_of b =
    let journal = b.beside.journal in
    afresh (base no_roms) (length b.beside.ram / 4096) (world_from b) (records_in record_size (slots_of journal) (ring_of (machine_of b.image).journal journal))

-- of where calls led, and of any call that is made next
pub record TakesBack (b : Boot) (h : Host) : Type 0 where
  -- image (its two journal words apart), RAM and paper equal those of iterating the step, steps run less steps taken back: "restores all else"
  pub world : world_at h ≡ world_due b h
  -- byte for byte, with the two journal words as the image has them
  pub image_is : h.buffers.image ≡ bytes_of (machine_in (world_due b h) (machine_of h.buffers.image).journal)
  -- "After any run or take-back since that reset the index equals the one worked out afresh from the journal."
  pub index_is : h.buffers.beside.index ≡ index_of h.buffers
  -- no call writes the ROMs
  pub roms_same : roms_in h.buffers.beside ≡ roms_at b
  -- the difference is never cut off at 0: what is on hand and what was taken back was all run
  pub enough : hand_due b h + steps_taken h.events ≤ steps_run h.events
  pub hand : (machine_of h.buffers.image).journal.on_hand ≡ hand_due b h
  -- 7: "take-back asks for more steps than are on hand"
  pub too_far : (k : ℕ) → (number_of (back_next h k).answer ≡ 7) ↔ (hand_due b h < k)
  -- otherwise it is done: "8 never arises under demand 3's premises. Every image that reset, run or take-back writes keeps the rules, so 5 does not either."
  pub back_done : (k : ℕ) → (number_of (back_next h k).answer ≡ 0) ↔ (k ≤ hand_due b h)
  -- "A done take-back of k reports k"
  pub back_steps : (k : ℕ) → k ≤ hand_due b h → steps_of (back_next h k).answer ≡ k
  pub back_never_5 : (k : ℕ) → number_of (back_next h k).answer ≡ 5 → ⊥
  pub back_never_8 : (k : ℕ) → number_of (back_next h k).answer ≡ 8 → ⊥
  pub back_never_10 : (k : ℕ) → number_of (back_next h k).answer ≡ 10 → ⊥
  -- and run is refused for its budget alone, "over 1,000,000", and so never with 5
  pub run_number : (budget stop : ℕ) → number_of (run_next h budget stop).answer ≡ cond (leb budget 1000000) 0 6
