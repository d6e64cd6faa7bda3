-- `turn::end` meets its contract.
use mathlib.Core.Path.{sym, ap, ◌∙◌}
use Prim.Native.Nat.{ℕ}
use native.Mathlib.Omega.{arith}
use mathlib.Core.List.{List}
use Rattle.clock.specs.Tick.{time_of}
use Rattle.record.specs.declared.Saved.{Saved}
use Rattle.step.specs.Parts.{saved_with}
use Rattle.journal.specs.Journal.{ended_of}
use Rattle.marks.specs.Steps.{kept_of, marked_of}
use Rattle.turn.specs.Turn.{forgotten_in, kept_in}
use Rattle.turn.proofs.Steps.{not_ended, not_marked, kept_some, marked_some}
use Rattle.turn.proofs.end.Goals as goal

pub returns-then-journal-lt-SLOT : goal.returns-then-journal-lt-SLOT
returns-then-journal-lt-SLOT c =
    let a = c.args in
    let distance = kept_in a.mark a.journal.now a.clock a.effect a.index.now in
    record {
      journal_after = sym (not_ended a.mark (saved_with distance a.effect a.regs.now a.old a.ram.now) a.journal.now c.if-journal-lt-SLOT.true);
      index_after = sym (not_marked a.mark a.journal.now a.clock a.effect a.ram.now a.index.now c.if-journal-lt-SLOT.true);
    }

pub forget-requires : goal.forget-requires
forget-requires c =
    record { index_len = omega (arith, c.requires.fits_ram.sixteen_each); ready = c.requires.ready; journal_nonzero = omega arith }

pub mark-distance-requires : goal.mark-distance-requires
mark-distance-requires c =
    let framed = c.requires.fits_ram in
    record {
      fits_ram = record { whole_frames = framed.whole_frames; sixteen_each = c.forget.auto.index ∙ framed.sixteen_each };
      within = c.requires.within;
    }

pub saved-requires : goal.saved-requires
saved-requires c = c.requires.within

pub ended-requires : goal.ended-requires
ended-requires c = c.requires.ready

pub returns : goal.returns
returns c =
    let a = c.args in
    let journal = a.journal.now in
    let here = time_of a.clock in
    let now = c.time.result in
    let under = c.below-under.result in
    let left : List ℕ = forgotten_in a.mark journal a.clock a.index.now in
    let far =
    c.mark-distance.ensures.0
    ∙ ap (λ (x : List ℕ). kept_of now under a.effect x) c.forget.ensures
    ∙ ap (λ (t : ℕ). kept_of t under a.effect left) c.time.ensures
    ∙ ap (λ (b : ℕ). kept_of here b a.effect left) c.below-under.ensures
    ∙ kept_some a.mark journal a.clock a.effect a.index.now c.if-journal-lt-SLOT.false in
    record {
      journal_after =
          c.ended.ensures
          ∙ ap (λ (s : Saved). ended_of a.mark s journal) c.saved.ensures
          ∙ ap (λ (d : ℕ). ended_of a.mark (saved_with d a.effect a.regs.now a.old a.ram.now) journal) far;
      index_after =
          c.mark-distance.ensures.1
          ∙ ap (λ (x : List ℕ). marked_of now a.effect a.ram.now x) c.forget.ensures
          ∙ ap (λ (t : ℕ). marked_of t a.effect a.ram.now left) c.time.ensures
          ∙ marked_some a.mark journal a.clock a.effect a.index.now c.if-journal-lt-SLOT.false a.ram.now;
    }
