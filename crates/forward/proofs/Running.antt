-- What the tests of run say, and what a run that passed them leaves: over plain values, so that the walk of the code hands its facts over by name.
use Prim.Native.Nat.{ℕ, ◌*◌, ◌/◌, ◌%◌, ◌≤◌, ◌<◌}
use mathlib.Core.Path.{◌≡◌}
use mathlib.Core.Bool.{true, false, not}
use mathlib.Core.List.{List}
use borrow.Author.Tests.{eqb-true, eq-eqb, ne_eqb, leb-true, le-leb, lt-leb}
use lib.Dec.{eqb, leb}
use lib.ListN.{length}
use Rattle.word.specs.Number.{between}
use Rattle.word.proofs.Cond.{both}
use Rattle.state.specs.Layout.{bytes_of, machine_of}
use Rattle.state.specs.declared.machine.Machine.{Machine}
use Rattle.state.proofs.RoundTrip.{decoded_zero}
use Rattle.rules.specs.Rules.{bytes_keep, journal_keeps, state_keeps, machine_keeps, keeps_rules}
use Rattle.turn.specs.Buffers.{Buffers, beside_of, buffers_of}
use Rattle.run.specs.Run.{Fits, RunIs, reason_of}
use Rattle.run.specs.declared.Outcome.{Outcome}
use Rattle.answer.specs.Lent.{index_fits, passed}
use Rattle.answer.proofs.Passed.{allowed}
use Rattle.accepted.proofs.Start.{lent_whole, ring_sound}
use Rattle.accepted.specs.Left.{left_of}
use Rattle.forward.specs.Run.{beside_test, image_test, reason_named, done_run}
use Rattle.answer.specs.declared.Reason.{Reason}
use Rattle.answer.specs.declared.Refusal.TheVariants.{Image, Range, Index}
use Rattle.std.specs.Prelude.{Err}
use Rattle.answer.specs.Answer.{done_with}

-- ---- what is lent

-- what the tests leave is what the run asks for
pub fits_run : (b : Buffers) {m : Machine} → beside_test b.beside ≡ passed →
    keeps_rules b.image (length b.beside.paper) (length b.beside.journal) ≡ true →
    index_fits (length b.beside.ram) (length b.beside.index) ≡ true → m ≡ machine_of b.image → Fits b.beside m
unfolding keeps_rules machine_keeps
fits_run b passed keeps framed is =
    let l = b.beside in
    let m = machine_of b.image in
    let paper = length l.paper in
    let journal = length l.journal in
    let a = allowed (length l.execution) (length l.bootstrap) (length l.ram) paper journal passed in
    let ram = length l.ram in
    let r = both (eqb (ram % 4096) 0) (between 1 4096 (ram / 4096)) a.ram_fits in
    let p = both (leb paper 65536) (eqb (paper % 8) 0) a.paper_fits in
    let f = both (leb journal 16777216) (eqb (journal % 512) 0) a.journal_fits in
    let k = both (bytes_keep b.image) (machine_keeps m paper journal) keeps in
    let j = both (state_keeps m paper) (journal_keeps m.journal (journal / 512)) k.1 in
    record {
      whole = lent_whole l.execution l.bootstrap l.ram a.ram_fits a.roms_fit;
      short = leb-true paper 65536 p.0;
      ready = rw is (record { few = leb-true journal 16777216 f.0; sound = ring_sound l.journal m.journal j.1 });
      framed =
          record {
            whole_frames = eqb-true (ram % 4096) 0 r.0;
            sixteen_each = eqb-true (length l.index) (16 * (ram / 4096)) framed;
          };
      zero = rw is (decoded_zero b.image);
    }

-- ---- the image, the budget and the index

module _ (b : Buffers) (budget : ℕ) where
  pub bad_length : (length b.image ≡ 741 → ⊥) → image_test b budget ≡ Err Image
  unfolding image_test
  bad_length h = rw (ne_eqb (length b.image) 741 h)

  module _ (long : length b.image ≡ 741) where
    pub bad_rules : keeps_rules b.image (length b.beside.paper) (length b.beside.journal) ≡ false → image_test b budget ≡ Err Image
    unfolding image_test
    bad_rules e = rw (eq-eqb (length b.image) 741 long, e)

    module _ (keeps : keeps_rules b.image (length b.beside.paper) (length b.beside.journal) ≡ true) where
      pub bad_budget : 1000000 < budget → image_test b budget ≡ Err Range
      unfolding image_test
      bad_budget l = rw (eq-eqb (length b.image) 741 long, keeps, lt-leb budget 1000000 l)

      module _ (few : budget ≤ 1000000) where
        pub bad_index : index_fits (length b.beside.ram) (length b.beside.index) ≡ false → image_test b budget ≡ Err Index
        unfolding image_test
        bad_index e = rw (eq-eqb (length b.image) 741 long, keeps, le-leb budget 1000000 few, e)

        pub all_passed : index_fits (length b.beside.ram) (length b.beside.index) ≡ true → image_test b budget ≡ passed
        unfolding image_test
        all_passed e = rw (eq-eqb (length b.image) 741 long, keeps, le-leb budget 1000000 few, e)

-- ---- the run

pub done_is : (b : Buffers) (budget stop : ℕ) {m : Machine} (o : Outcome) {reason : Reason} {image ram paper journal index : List ℕ} → m ≡ machine_of b.image →
    RunIs budget (not (eqb stop 0)) m b.beside o (beside_of b.beside.execution b.beside.bootstrap ram paper journal index) →
    image ≡ bytes_of o.machine → reason ≡ reason_named (reason_of o.why) →
    left_of (done_with o.steps reason) (buffers_of image b.beside.execution b.beside.bootstrap ram paper journal index) ≡ done_run b budget stop
unfolding done_run
done_is b budget stop o is ran encoded told = rw (encoded, told, ← is, ← ran)
