-- EVERY IMAGE THAT A DONE RUN WRITES KEEPS THE RULES and is read again as the machine that was run, and what is lent stays as long as it was.
use Prim.Native.Nat.{ℕ, ◌/◌, ◌^◌, ◌<◌}
use mathlib.Core.Path.{◌≡◌, refl, sym, ap, subst, ◌∙◌}
use mathlib.Core.Bool.{true, not}
use mathlib.Core.List.{List}
use native.Mathlib.Omega.{arith}
use borrow.Author.Tests.{le-leb}
use lib.Dec.{eqb, leb}
use lib.ListN.{length}
use Rattle.word.specs.Lists.{Below}
use Rattle.ring.specs.Slots.{Sound}
use Rattle.ring.specs.Run.{Why, Config, advance, ended, spent}
use Rattle.ring.proofs.Slots.{sound_written, length_written}
use Rattle.record.specs.Layout.{record_bytes}
use Rattle.journal.specs.Journal.{slots_of}
use Rattle.state.specs.Layout.{bytes_of, machine_of}
use Rattle.state.specs.declared.machine.Machine.{Machine}
use Rattle.rules.specs.Rules.{good_image}
use Rattle.rules.proofs.Good.{good_same}
use Rattle.decide.specs.Lent.{Whole}
use Rattle.step.specs.World.{World, Roms, lent_in, world_in}
use Rattle.step.specs.Note.{note_of}
use Rattle.good.specs.Good.{Good}
use Rattle.good.proofs.Lengths.{step_lengths, step_whole}
use Rattle.good.proofs.Keeps.{step_keeps}
use Rattle.restored.proofs.Notes.{note_long}
use Rattle.indexed.specs.Ahead.{tag_of}
use Rattle.indexed.proofs.Lengths.{onward_long}
use Rattle.marks.specs.Index.{distance_in, ahead}
use Rattle.turn.specs.Buffers.{Beside, Buffers, roms_in}
use Rattle.run.specs.Run.{forward, config_of}
use Rattle.answer.specs.declared.Reason.TheVariants.{BudgetSpent}
use Rattle.answer.specs.Answer.{done_with}
use Rattle.answer.specs.Lent.{ram_fits, roms_fit, paper_fits, journal_fits, index_fits}
use Rattle.accepted.specs.After.{world_from}
use Rattle.accepted.specs.Left.{Left, left_of}
use Rattle.forward.specs.Run.{reason_named, ran_of, done_run, run_leaves}
use Rattle.ring.proofs.Run as ring
use Rattle.ring.proofs.Steps.{run_keeps}
use Rattle.accepted.proofs.Start.{lent_whole, paper_short, few_slots, ring_sound, image_mark, start_good}
use Rattle.accepted.proofs.End.{end_bytes, end_good, end_read}
use Rattle.forward.proofs.Theorems.{run_number, number_0, done_is}

-- ---- what a run keeps from step to step: `slots` of the journal, and the lengths of RAM, paper, journal and index

module _ (roms : Roms) (slots ram paper journal index : ℕ) where
  pub record Fine (c : Config (forward roms)) : Type 0 where
    pub good : Good c.state
    pub whole : Whole (lent_in roms c.state)
    pub ram_long : length c.state.ram ≡ ram
    pub paper_long : length c.state.paper ≡ paper
    pub sound : Sound 512 slots c.ring
    pub journal_long : length c.ring.bytes ≡ journal
    pub index_long : length c.side ≡ index

  fine_on : Below 256 roms.execution → Below 256 roms.bootstrap → paper < 2 ^ 32 → (c : Config (forward roms)) → Fine c → Fine (advance (forward roms) slots c)
  unfolding advance
  fine_on execution bootstrap few c h =
      let w : World = c.state in
      let some : 0 < length w.cpu.tlb = omega (arith, h.good.typed.sized.tlb) in
      let same = step_lengths roms w h.whole some in
      let short : length w.paper < 2 ^ 32 = omega (arith, few, h.paper_long) in
      -- what the record keeps of the index
      let distance : ℕ = distance_in (tag_of (ahead roms) slots c.ring w c.side) in
      let long = note_long distance roms w h.good in
      record {
        good = step_keeps roms execution bootstrap w short h.whole h.good;
        whole = step_whole roms w h.whole some;
        ram_long = same.ram ∙ h.ram_long;
        paper_long = same.paper ∙ h.paper_long;
        sound = sound_written 512 slots (record_bytes (note_of distance roms w)) c.ring long h.sound;
        journal_long = length_written 512 slots (record_bytes (note_of distance roms w)) c.ring long h.sound ∙ h.journal_long;
        index_long = onward_long (ahead roms) c.ring w c.side slots ∙ h.index_long;
      }

-- ---- the call

pub record RunKept (left : Left) (b : Buffers) : Type 0 where
  pub image_good : good_image left.buffers.image (length left.buffers.beside.paper) (length left.buffers.beside.journal) ≡ true
  pub ram_long : length left.buffers.beside.ram ≡ length b.beside.ram
  pub paper_long : length left.buffers.beside.paper ≡ length b.beside.paper
  pub journal_long : length left.buffers.beside.journal ≡ length b.beside.journal
  pub index_long : length left.buffers.beside.index ≡ length b.beside.index
  pub roms_same : roms_in left.buffers.beside ≡ roms_in b.beside
  pub image_bytes : Below 256 left.buffers.image
  pub ram_bytes : Below 256 left.buffers.beside.ram
  pub paper_bytes : Below 256 left.buffers.beside.paper

module _ (b : Buffers) (budget stop : ℕ) (number : run_number b budget stop ≡ 0) where
  abbrev lent : Beside
  lent = b.beside

  abbrev roms : Roms
  roms = roms_in lent

  -- what is lent is bytes
  module _ (image_are : Below 256 b.image) (execution_are : Below 256 lent.execution) (bootstrap_are : Below 256 lent.bootstrap)
      (ram_are : Below 256 lent.ram) (paper_are : Below 256 lent.paper) where
    abbrev FineHere : Config (forward roms) → Type 0
    FineHere = Fine roms (slots_of lent.journal) (length lent.ram) (length lent.paper) (length lent.journal) (length lent.index)

    start : FineHere (config_of roms (machine_of b.image) lent)
    start =
        let t = (number_0 b budget stop).0 number in
        let good = t.1.1.1.1.0 in
        record {
          good = start_good b.image lent.ram lent.paper (length lent.journal) good image_are ram_are paper_are;
          whole = lent_whole lent.execution lent.bootstrap lent.ram t.0 t.1.0;
          ram_long = refl;
          paper_long = refl;
          sound =
              ring_sound lent.journal (machine_of b.image).journal (image_mark b.image (length lent.paper) (length lent.journal) good);
          journal_long = refl;
          index_long = refl;
        }

    fine : FineHere (ran_of b budget stop).config
    fine =
        let t = (number_0 b budget stop).0 number in
        let short = paper_short (length lent.paper) t.1.1.0 in
        run_keeps (forward roms) (slots_of lent.journal) FineHere
        (fine_on roms (slots_of lent.journal) (length lent.ram) (length lent.paper) (length lent.journal) (length lent.index) execution_are bootstrap_are
        short) budget (not (eqb stop 0)) (config_of roms (machine_of b.image) lent) start

    few : slots_of lent.journal < 2 ^ 32
    few = few_slots lent.journal ((number_0 b budget stop).0 number).1.1.1.0

    done_kept : RunKept (done_run b budget stop) b
    unfolding done_run
    done_kept =
        let c = (ran_of b budget stop).config in
        let n = slots_of lent.journal in
        let same : n ≡ length c.ring.bytes / 512 = ap (λ (k : ℕ). k / 512) (sym fine.journal_long) in
        record {
          image_good = end_good c.state c.ring n few fine.good fine.sound same;
          ram_long = fine.ram_long;
          paper_long = fine.paper_long;
          journal_long = fine.journal_long;
          index_long = fine.index_long;
          roms_same = refl;
          image_bytes = end_bytes c.state c.ring n few fine.good fine.sound;
          ram_bytes = fine.good.ram;
          paper_bytes = fine.good.paper;
        }

    -- THE THEOREM
    pub run_kept : RunKept (run_leaves b budget stop) b
    run_kept = subst (λ (l : Left). RunKept l b) (sym (done_is b budget stop number)) done_kept

    done_read : world_from (done_run b budget stop).buffers ≡ (ran_of b budget stop).config.state
    unfolding done_run
    done_read =
        let c = (ran_of b budget stop).config in
        ap (λ (m : Machine). world_in m c.state.ram c.state.paper) (end_read c.state c.ring (slots_of lent.journal) few fine.good fine.sound)

    -- what is left, read again, is the world where the run stands
    pub run_read : world_from (run_leaves b budget stop).buffers ≡ (ran_of b budget stop).config.state
    run_read = ap (λ (l : Left). world_from l.buffers) (done_is b budget stop number) ∙ done_read

    -- so what a done run leaves can be run again, with any budget in its range
    pub run_again : (more stop' : ℕ) → leb more 1000000 ≡ true → run_number (run_leaves b budget stop).buffers more stop' ≡ 0
    run_again more stop' e =
        let t = (number_0 b budget stop).0 number in
        let k = run_kept in
        let after = (run_leaves b budget stop).buffers in
        let r : ram_fits (length after.beside.ram) ≡ true = ap (λ (n : ℕ). ram_fits n) k.ram_long ∙ t.0 in
        let o : roms_fit (length after.beside.execution) (length after.beside.bootstrap) ≡ true =
        ap (λ (x : Roms). roms_fit (length x.execution) (length x.bootstrap)) k.roms_same ∙ t.1.0 in
        let p : paper_fits (length after.beside.paper) ≡ true = ap (λ (n : ℕ). paper_fits n) k.paper_long ∙ t.1.1.0 in
        let j : journal_fits (length after.beside.journal) ≡ true = ap (λ (n : ℕ). journal_fits n) k.journal_long ∙ t.1.1.1.0 in
        let x : index_fits (length after.beside.ram) (length after.beside.index) ≡ true =
        ap (λ (n : ℕ). index_fits n (length after.beside.index)) k.ram_long ∙ ap (λ (n : ℕ). index_fits (length b.beside.ram) n) k.index_long
        ∙ t.1.1.1.1.1.1 in
        (number_0 after more stop').1 (r, (o, (p, (j, (k.image_good, (e, x))))))

-- ---- a run that takes no step leaves every byte as it was

module _ (b : Buffers) (budget stop : ℕ) (number : run_number b budget stop ≡ 0) (why : Why)
    (none : ran_of b budget stop ≡ ended (config_of (roms_in b.beside) (machine_of b.image) b.beside) 0 why) where
  stayed : done_run b budget stop ≡ left_of (done_with 0 (reason_named why)) (record { image = bytes_of (machine_of b.image); beside = b.beside })
  unfolding done_run
  stayed = rw none

  pub stays : Below 256 b.image → run_leaves b budget stop ≡ left_of (done_with 0 (reason_named why)) b
  stays small =
      done_is b budget stop number ∙ stayed
      ∙ ap (λ (image : List ℕ). left_of (done_with 0 (reason_named why)) (record { image = image; beside = b.beside }))
      (good_same b.image (length b.beside.paper) (length b.beside.journal) small ((number_0 b budget stop).0 number).1.1.1.1.0)

-- ---- "Budget 0 [..] [is] done and change[s] nothing", and "for budget 0 [the reason] is the budget"

module _ (b : Buffers) (stop : ℕ) (ram_fits : ram_fits (length b.beside.ram) ≡ true)
    (roms_fit : roms_fit (length b.beside.execution) (length b.beside.bootstrap) ≡ true) (paper_fits : paper_fits (length b.beside.paper) ≡ true)
    (journal_fits : journal_fits (length b.beside.journal) ≡ true)
    (good : good_image b.image (length b.beside.paper) (length b.beside.journal) ≡ true)
    (index_fits : index_fits (length b.beside.ram) (length b.beside.index) ≡ true) where
  none_done : run_number b 0 stop ≡ 0
  none_done = (number_0 b 0 stop).1 (ram_fits, (roms_fit, (paper_fits, (journal_fits, (good, (le-leb 0 1000000 (omega arith), index_fits))))))

  pub run_none : Below 256 b.image → run_leaves b 0 stop ≡ left_of (done_with 0 BudgetSpent) b
  run_none small =
      let roms = roms_in b.beside in
      stays b 0 stop none_done spent
      (ring.run_none (forward roms) (slots_of b.beside.journal) (not (eqb stop 0)) (config_of roms (machine_of b.image) b.beside)) small
