-- What seek is asked after a done reset and any calls of run and take-back, with the image's two words for the journal, is told of the machine's own
-- steps. The premises are demand 3's.
use Prim.Native.Nat.{ℕ, ◌/◌}
use mathlib.Core.Path.{◌≡◌, sym, ap, subst}
use mathlib.Core.Bool.{true}
use mathlib.Core.List.{List}
use lib.ListN.{length}
use Rattle.ring.specs.Calls.{net}
use Rattle.ring.proofs.History.{Holds}
use Rattle.journal.specs.Journal.{slots_of}
use Rattle.state.specs.Layout.{machine_of}
use Rattle.state.specs.declared.machine.Journal.{Journal}
use Rattle.step.specs.World.{World}
use Rattle.indexed.proofs.Kept.{Indexed}
use Rattle.back.specs.Back.{base, both}
use Rattle.demand3.specs.Demand3.{Call, Host, Boot, Booted, called_all, roms_at, reset_to, world_at}
use Rattle.demand3.proofs.Boot.{frames, boot_allowed}
use Rattle.demand3.proofs.Carried.{config_at, carried_start}
use Rattle.demand3.proofs.Demand3.{carried_all}
use Rattle.seek.specs.Pcs.{newest, oldest}
use Rattle.seek.specs.Seek.{has_word, last_change_of, newest_at_of, oldest_at_of}
use Rattle.std.specs.Prelude.{Option}
use Rattle.seek.specs.declared.Change.{Change}
use Rattle.told.specs.Told.{Tells, pcs_ago, ago_in}
use Rattle.told.proofs.History.{holds_tells, holds_only, holds_newest, holds_oldest}

module _ (b : Boot) (p : Booted b) (calls : List Call) where
  abbrev h : Host
  h = called_all calls (reset_to b)

  -- the image's two words
  abbrev mark : Journal
  mark = (machine_of h.buffers.image).journal

  -- what is kept beside: the index, of which nothing is asked here
  abbrev besides : ℕ → World → List (List ℕ) → List ℕ → Type 0
  besides = Indexed (base (roms_at b)) (frames b p)

  abbrev HoldsIn : ℕ → Type 0
  HoldsIn n = Holds (both (roms_at b)) (world_at (reset_to b)) (length b.buffers.beside.journal) besides n (net h.events) (config_at b h)

  held : HoldsIn (slots_of h.buffers.beside.journal)
  held =
      let k = (carried_all b p calls (reset_to b) (carried_start b p)).kept.holds in
      subst HoldsIn (ap (λ (bytes : ℕ). bytes / 512) (sym k.long)) k

  -- last_change, of a word that RAM has
  pub change_told : (place : ℕ) → has_word h.buffers.beside.ram place ≡ true →
      Tells (ago_in b h) mark.on_hand place (last_change_of h.buffers.beside.ram h.buffers.beside.journal mark.on_hand mark.next_slot place)
  change_told place has =
      holds_tells (roms_at b) p.execution_bytes p.bootstrap_bytes (world_at (reset_to b)) (boot_allowed b p) (length b.buffers.beside.journal) (net h.events) besides
      (config_at b h) held place has

  -- so each answer of it is told exactly where it holds
  pub change_only : (place : ℕ) → has_word h.buffers.beside.ram place ≡ true → (r : Option Change) → Tells (ago_in b h) mark.on_hand place r →
      r ≡ last_change_of h.buffers.beside.ram h.buffers.beside.journal mark.on_hand mark.next_slot place
  change_only place has =
      holds_only (roms_at b) p.execution_bytes p.bootstrap_bytes (world_at (reset_to b)) (boot_allowed b p) (length b.buffers.beside.journal) (net h.events) besides
      (config_at b h) held place has

  -- newest_at and oldest_at, over the PCs that the steps on hand were made at
  pub newest_told : (pc : ℕ) → newest_at_of h.buffers.beside.journal mark.on_hand mark.next_slot pc ≡ newest pc 0 (pcs_ago (ago_in b h) mark.on_hand)
  newest_told pc =
      holds_newest (roms_at b) p.execution_bytes p.bootstrap_bytes (world_at (reset_to b)) (boot_allowed b p) (length b.buffers.beside.journal) (net h.events) besides
      (config_at b h) held pc

  pub oldest_told : (pc : ℕ) → oldest_at_of h.buffers.beside.journal mark.on_hand mark.next_slot pc ≡ oldest pc (pcs_ago (ago_in b h) mark.on_hand) mark.on_hand
  oldest_told pc =
      holds_oldest (roms_at b) p.execution_bytes p.bootstrap_bytes (world_at (reset_to b)) (boot_allowed b p) (length b.buffers.beside.journal) (net h.events) besides
      (config_at b h) held pc
