-- Where a done reset with buffers of allowed lengths leaves the machine: in a good world, of which ring's laws hold, and with an empty journal.
use Prim.Native.Nat.{ℕ, zero, suc, ◌*◌, ◌/◌, ◌%◌, ◌<◌}
use native.Mathlib.Omega.{arith}
use mathlib.Core.Path.{◌≡◌, refl, sym, ap, subst, ◌∙◌}
use mathlib.Core.List.{List, []}
use borrow.Author.Tests.{eqb-true, leb-true}
use lib.Dec.{eqb, leb}
use lib.ListN.{length, replicate}
use Rattle.word.specs.Lists.{Below}
use Rattle.word.specs.Number.{between}
use Rattle.word.proofs.Cond as word
use Rattle.ring.specs.Machine.{Laws, Besides, iterate}
use Rattle.ring.proofs.History.{iterate_good}
use Rattle.journal.specs.Journal.{slots_of}
use Rattle.state.specs.Layout.{bytes_of, machine_of, WellTyped}
use Rattle.state.specs.declared.machine.Machine.{Machine}
use Rattle.state.proofs.RoundTrip.{decode_encode}
use Rattle.step.specs.World.{World}
use Rattle.good.specs.Good.{no_mark}
use Rattle.good.proofs.Lengths.{step_lengths}
use Rattle.run.specs.Run.{forward}
use Rattle.back.specs.Back.{base, both}
use Rattle.back.specs.Allowed.{Allowed, Framed}
use Rattle.back.proofs.Index.{framed_laws, index_laws}
use Rattle.indexed.proofs.Kept.{Indexed, besides, indexed_start}
use Rattle.reset.specs.Reset.{reset_machine}
use Rattle.demand3.specs.Demand3.{Boot, Booted, roms_at, reset_to, world_at}
use Rattle.reset.proofs.Answers.{in_range}
use Rattle.reset.proofs.Keeps.{well_typed}
use Rattle.reset.proofs.Theorems as reset
use Rattle.accepted.proofs.Start.{lent_whole, image_bytes, start_good}

module _ (b : Boot) (p : Booted b) where
  abbrev machine : Machine
  machine = reset_machine b.scale b.delay b.installed

  typed : WellTyped machine
  typed =
      let h = (reset.number_0 b.buffers.image b.buffers.beside.index b.scale b.delay b.installed).0 p.reset_done in
      well_typed b.scale b.delay b.installed (in_range b.scale b.delay b.installed h.1)

  pub boot_image : (reset_to b).buffers.image ≡ bytes_of machine
  boot_image = reset.done_image b.buffers.image b.buffers.beside.index b.scale b.delay b.installed p.reset_done

  pub boot_machine : machine_of (reset_to b).buffers.image ≡ machine
  boot_machine = ap machine_of boot_image ∙ decode_encode machine typed

  -- "Reset empties it"
  pub boot_mark : (machine_of (reset_to b).buffers.image).journal ≡ no_mark
  unfolding reset_machine
  boot_mark = ap (λ (m : Machine). m.journal) boot_machine

  boot_bytes : Below 256 (reset_to b).buffers.image
  boot_bytes = subst (λ (l : List ℕ). Below 256 l) (sym boot_image) (image_bytes machine typed)

  pub boot_allowed : Allowed (roms_at b) (world_at (reset_to b))
  boot_allowed =
      record {
        good =
            start_good (reset_to b).buffers.image b.buffers.beside.ram b.buffers.beside.paper (length b.buffers.beside.journal)
            (reset.done_keeps b.buffers.image b.buffers.beside.index b.scale b.delay b.installed p.reset_done (length b.buffers.beside.paper) (length b.buffers.beside.journal))
            boot_bytes p.ram_bytes p.paper_bytes;
        whole = lent_whole b.buffers.beside.execution b.buffers.beside.bootstrap b.buffers.beside.ram p.ram_fits p.roms_fit;
        short = leb-true (length b.buffers.beside.paper) 65536 (word.both (leb (length b.buffers.beside.paper) 65536) (eqb (length b.buffers.beside.paper % 8) 0) p.paper_fits).0;
      }

  -- ---- the index

  abbrev pub frames : ℕ
  frames = length b.buffers.beside.ram / 4096

  pub boot_framed : Framed (roms_at b) frames (world_at (reset_to b))
  boot_framed =
      let ram = length b.buffers.beside.ram in
      let whole = eqb-true (ram % 4096) 0 (word.both (eqb (ram % 4096) 0) (between 1 4096 (ram / 4096)) p.ram_fits).0 in
      record { allowed = boot_allowed; ram = omega (arith, whole) }

  pub boot_laws : Laws (both (roms_at b)) (Framed (roms_at b) frames)
  boot_laws = framed_laws (roms_at b) p.execution_bytes p.bootstrap_bytes frames

  -- what is kept beside: the index worked out afresh
  pub boot_besides : (n : ℕ) → Besides (both (roms_at b)) (Framed (roms_at b) frames) n (Indexed (base (roms_at b)) frames n)
  boot_besides = besides (base (roms_at b)) frames (index_laws (roms_at b) p.execution_bytes p.bootstrap_bytes frames)

  boot_zeros : (reset_to b).buffers.beside.index ≡ replicate (16 * frames) 0
  boot_zeros =
      reset.done_index b.buffers.image b.buffers.beside.index b.scale b.delay b.installed p.reset_done
      ∙ ap (λ (n : ℕ). replicate n 0) (eqb-true (length b.buffers.beside.index) (16 * frames) p.index_fits)

  pub boot_indexed : Indexed (base (roms_at b)) frames (slots_of b.buffers.beside.journal) (world_at (reset_to b)) [] (reset_to b).buffers.beside.index
  boot_indexed =
      let journal = length b.buffers.beside.journal in
      let most = leb-true journal 16777216 (word.both (leb journal 16777216) (eqb (journal % 512) 0) p.journal_fits).0 in
      subst (λ (x : List ℕ). Indexed (base (roms_at b)) frames (slots_of b.buffers.beside.journal) (world_at (reset_to b)) [] x) (sym boot_zeros)
      (indexed_start (base (roms_at b)) frames (slots_of b.buffers.beside.journal) (world_at (reset_to b)) (omega (arith, most)))

  -- ---- where iterating the step leads from there

  abbrev later : ℕ → World
  later m = iterate (forward (roms_at b)) m (world_at (reset_to b))

  pub later_allowed : (m : ℕ) → Allowed (roms_at b) (later m)
  later_allowed m = (iterate_good (both (roms_at b)) (world_at (reset_to b)) (length b.buffers.beside.journal) boot_laws boot_framed m).allowed

  pub later_long : (m : ℕ) → (length (later m).ram ≡ length b.buffers.beside.ram) × (length (later m).paper ≡ length b.buffers.beside.paper)
  later_long zero = (refl, refl)
  later_long (suc m) =
      let a = later_allowed m in
      let some : 0 < length (later m).cpu.tlb = omega (arith, a.good.typed.sized.tlb) in
      let same = step_lengths (roms_at b) (later m) a.whole some in
      let before = later_long m in
      (same.ram ∙ before.0, same.paper ∙ before.1)
