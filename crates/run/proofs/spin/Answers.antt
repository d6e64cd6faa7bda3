-- `run::spin` meets its contract: at the loop's head the run from the start is the run from here, `steps` later. What a turn's calls ensure is one step (`turned_is`).
-- The arms differ in what they know of the effect; `again` and `ends` take each of them from the turn's statement.
use Rattle.std.specs.Prelude.{◌≡◌, ℕ, ◌+◌, ◌<◌, Bool, true, false, ◌&&◌, List, length}
use mathlib.Core.Path.{◌∙◌, refl, sym, ap}
use mathlib.Core.Bool.{and-false}
use native.Mathlib.Omega.{arith}
use Rattle.ring.specs.Run.{Config, ended, excepted}
use Rattle.ring.specs.Run as ring
use Rattle.ring.proofs.Run.{Reached, reached_start}
use Rattle.journal.specs.Journal.{slots_of}
use Rattle.journal.specs.Journal as slots
use Rattle.tlb.specs.declared.Row.{Row}
use Rattle.tlb.proofs.Laws.{written_row, length_written}
use Rattle.pages.specs.Pages.{Known}
use Rattle.pages.specs.declared.Pages.{Pages}
use Rattle.pages.proofs.Knows.{knows_none}
use Rattle.state.specs.Layout.{HoldsZero}
use Rattle.decide.specs.Lent.{Whole}
use Rattle.decide.specs.Range.{Within}
use Rattle.decide.specs.declared.effect.Effect.{Effect}
use Rattle.decide.specs.declared.effect.Decision.{Decision}
use Rattle.held.specs.Board.{Told}
use Rattle.held.specs.Core.{core_in}
use Rattle.held.proofs.Board.{length_printers}
use Rattle.step.specs.World.{Roms}
use Rattle.step.specs.Parts.{ahead_of, rows_after}
use Rattle.step.specs.Step.{halts_of, enters}
use Rattle.step.proofs.Zero.{applied_zero}
use Rattle.meets.specs.Meets.{meets_two_of}
use Rattle.meets.proofs.Quiet.{meets_one}
use Rattle.turn.specs.Buffers.{Beside, beside_of, roms_in}
use Rattle.turn.specs.Turn.{lent_from, world_held, TurnIs}
use Rattle.turn.specs.declared.Parts.{Parts}
use Rattle.turn.proofs.Steps.{turned_is, begun_record, parts_left, decided_fits, still_ready}
use Rattle.run.specs.Run.{forward}
use Rattle.run.specs.Spin.{config_of}
use Rattle.run.proofs.Turns as turns
use Rattle.run.proofs.Looks.{NextLook, Goes, next_look, halts_ahead, look_ends, look_goes}
use Rattle.run.proofs.spin.Goals as goal
use Rattle.run.proofs.spin.Lts as lts
use Rattle.run.proofs.spin.Tie as tie
use Rattle.run.proofs.spin.Reads as reads

abbrev Head : Type 0
Head = lts.At-loop tie.the-claims reads.Pre reads.Post goal.the-invariant-loop-settings goal.the-decreases-loop-settings tie.handed_clauses

abbrev After : Type 0
After = lts.After-mark2 tie.the-claims reads.Pre reads.Post goal.the-invariant-loop-settings goal.the-decreases-loop-settings tie.handed_clauses

abbrev finished : After → lts.After-finish tie.the-claims reads.Pre reads.Post goal.the-invariant-loop-settings goal.the-decreases-loop-settings tie.handed_clauses
finished c = c.before.before.before.before.before.before.before.before

abbrev asked : After → lts.After-old_row tie.the-claims reads.Pre reads.Post goal.the-invariant-loop-settings goal.the-decreases-loop-settings tie.handed_clauses
asked c = (finished c).before.before.before.before.before.before.before

abbrev decided : After → lts.After-decide tie.the-claims reads.Pre reads.Post goal.the-invariant-loop-settings goal.the-decreases-loop-settings tie.handed_clauses
decided c = (asked c).before

abbrev followed : After → lts.After-follow tie.the-claims reads.Pre reads.Post goal.the-invariant-loop-settings goal.the-decreases-loop-settings tie.handed_clauses
followed c = (decided c).before.before.before

abbrev read : After → lts.After-core_in tie.the-claims reads.Pre reads.Post goal.the-invariant-loop-settings goal.the-decreases-loop-settings tie.handed_clauses
read c = (followed c).before.before.before.before

abbrev started : After → lts.After-start tie.the-claims reads.Pre reads.Post goal.the-invariant-loop-settings goal.the-decreases-loop-settings tie.handed_clauses
started c = (read c).before.before.before.before.before.before

abbrev Looked : Type 0
Looked = lts.After-looked tie.the-claims reads.Pre reads.Post goal.the-invariant-loop-settings goal.the-decreases-loop-settings tie.handed_clauses

abbrev single : After → lts.Else1 tie.the-claims reads.Pre reads.Post goal.the-invariant-loop-settings goal.the-decreases-loop-settings tie.handed_clauses
single c = (started c).before.before.before.before.before

abbrev looked : After → Looked
looked c = (single c).before

abbrev head_of : Looked → Head
head_of l = l.before.before.before.before

abbrev head : After → Head
head c = head_of (looked c)

abbrev entry : Head → lts.Start tie.the-claims reads.Pre reads.Post goal.the-invariant-loop-settings goal.the-decreases-loop-settings tie.handed_clauses
entry h = h.before.before.before.before.before.before.before.before.before.before.before.before.before.before

-- the parts and buffers of a turn's start
abbrev parts_at : Head → Parts
parts_at h = let l = h.loop-settings in record { core = l.core; held = l.held; regs = l.regs; rows = l.rows; words = l.words; mark = l.mark }

abbrev beside_at : Head → Beside
beside_at h = let a = (entry h).args in beside_of a.execution.now a.bootstrap.now h.loop-settings.ram h.loop-settings.paper h.loop-settings.journal h.loop-settings.index

whole_at : (h : Head) → Whole (lent_from (beside_at h))
whole_at h = turns.still_whole h.loop-settings.invariant.1 (entry h).requires.whole

within_at : (d : lts.After-decide tie.the-claims reads.Pre reads.Post goal.the-invariant-loop-settings goal.the-decreases-loop-settings tie.handed_clauses) → Within (length (head_of d.before.before.before.before.before.before.before.before.before.before.before.before.before.before.before.before.before.before.before).loop-settings.ram) 16 d.decide-d.result.effect
within_at d = let h = head_of d.before.before.before.before.before.before.before.before.before.before.before.before.before.before.before.before.before.before.before in decided_fits (whole_at h) _ _ h.loop-settings.rows h.loop-settings.invariant.6 d.decide-d.ensures

-- what the look asked, and what it says of a step that is taken
abbrev asks : Head → Bool
asks h = let l = h.loop-settings in meets_two_of (ahead_of (core_in l.core) l.held l.words) l.regs l.rows (lent_from (beside_at h))

goes_at : (c : After) → let h = head c in Goes h.loop-settings.rows (asks h) h.loop-settings.steps (entry h).args.budget (looked c).looked-look.result.limit
goes_at c =
    let h = head c in
    look_goes h.loop-settings.rows h.loop-settings.steps h.loop-settings.limit (entry h).args.budget (asks h) (looked c).looked-look.result (looked c).looked-look.ensures h.loop-settings.invariant.0
    (meets_one _ h.loop-settings.regs h.loop-settings.rows (lent_from (beside_at h))) (single c).if-look.false

once_at : (c : After) → let h = head c in halts_of (roms_in (beside_at h)) (world_held (parts_at h) (entry h).args.settings (beside_at h)) ≡ false
once_at c = let h = head c in sym (halts_ahead (parts_at h) (entry h).args.settings (beside_at h)) ∙ (goes_at c).once

left_of : (c : After) → (head c).loop-settings.steps < (entry (head c)).args.budget
left_of c = (goes_at c).left

-- what is remembered when the step is decided
abbrev pages_at : After → Pages
pages_at c = (followed c).follow.new.pages

known_at : (c : After) → Known (pages_at c) (head c).loop-settings.rows (length (entry (head c)).args.ram.now)
known_at c = rw (head c).loop-settings.invariant.1 at (followed c).follow.ensures

-- The turn's statement, the effect that the arm knows and what is left of the budget take the run one step on, or end it.
module _ (c : After) where
  abbrev h : Head
  h = head c

  abbrev a : lts.Start tie.the-claims reads.Pre reads.Post goal.the-invariant-loop-settings goal.the-decreases-loop-settings tie.handed_clauses
  a = entry h

  abbrev d : Decision
  d = (decided c).decide-d.result

  abbrev roms : Roms
  roms = roms_in (beside_at h)

  abbrev from : Config (forward roms)
  from = config_of roms a.args.settings a.args.parts (beside_of a.args.execution.now a.args.bootstrap.now a.args.ram.now a.args.paper.now a.args.journal.now a.args.index.now)

  abbrev parts_then : Parts
  parts_then = let f = (finished c).finish-turned in parts_left (parts_at h) d f.result f.new.core f.new.words f.new.regs

  abbrev beside_then : Beside
  beside_then =
      let f = (finished c).finish-turned in
      beside_of a.args.execution.now a.args.bootstrap.now f.new.ram (started c).start-after.new.paper f.new.journal
      f.new.index

  turn_is : TurnIs a.args.settings (parts_at h) (beside_at h) d.effect parts_then beside_then
  turn_is =
      turned_is a.args.settings (parts_at h) (beside_at h) (whole_at h) h.loop-settings.invariant.5 h.loop-settings.invariant.6 (started c).start-after.ensures.tick_is (started c).start-after.ensures.journal_after
      (started c).start-after.auto.journal (started c).start-after.ensures.onward
      (read c).core_in-now.ensures (decided c).decide-d.ensures (asked c).old_row-old.ensures (finished c).finish-turned.ensures.apply_is (finished c).finish-turned.ensures.journal_after (finished c).finish-turned.ensures.index_after

  index_long : length beside_then.index ≡ length h.loop-settings.index
  index_long = (finished c).finish-turned.auto.index

  journal_long : length beside_then.journal ≡ length h.loop-settings.journal
  journal_long = (finished c).finish-turned.auto.journal ∙ (started c).start-after.auto.journal

  same : slots_of h.loop-settings.journal ≡ slots_of a.args.journal.now
  same = rw h.loop-settings.invariant.3

  module _ {e : Effect} (told : d.effect ≡ e) (rows : List Row) (put : rows_after e h.loop-settings.rows ≡ rows) (long : length rows ≡ 16) (limit : ℕ)
      (next : NextLook rows (h.loop-settings.steps + 1) a.args.budget limit) (pages : Pages) (true_of : Known pages rows (length a.args.ram.now)) where
    abbrev there : Config (forward roms)
    there = config_of roms a.args.settings (turns.with_rows rows parts_then) beside_then

    left_rows : parts_then.rows ≡ rows
    left_rows = ap (λ (x : Effect). rows_after x h.loop-settings.rows) told ∙ put

    abbrev Onward : Type 0
    Onward =
        NextLook rows (h.loop-settings.steps + 1) a.args.budget limit
        × (length beside_then.ram ≡ length a.args.ram.now)
        × (length beside_then.paper ≡ length a.args.paper.now)
        × (length beside_then.journal ≡ length a.args.journal.now)
        × Told parts_then.held parts_then.words
        × slots.Ready beside_then.journal parts_then.mark
        × (length rows ≡ 16)
        × (length parts_then.core ≡ 14)
        × HoldsZero parts_then.regs
        × (length beside_then.index ≡ length a.args.index.now)
        × Known pages rows (length a.args.ram.now)
        × Reached (forward roms) (slots_of a.args.journal.now) a.args.budget a.args.stop from (h.loop-settings.steps + 1) there

    again : (a.args.stop && enters e) ≡ false → Onward
    again q =
        let i = h.loop-settings.invariant in (
          next,
          (finished c).finish-turned.auto.ram ∙ i.1,
          (started c).start-after.auto.paper ∙ i.2,
          journal_long ∙ i.3,
          turn_is.told,
          turns.ready (slots_of a.args.journal.now) a.args.budget a.args.stop turn_is journal_long i.5,
          long,
          turn_is.fourteen,
          applied_zero _ 16 (finished c).finish-turned.ensures.apply_is (within_at (decided c)) i.8,
          index_long ∙ i.9,
          true_of,
          turns.goes _ _ a.args.stop turn_is same told rows left_rows from h.loop-settings.steps (left_of c) i.11 (once_at c) q,
        )

    onward : enters e ≡ false → Onward
    onward quiet = again (rw quiet (and-false a.args.stop))

    ends : (a.args.stop && enters e) ≡ true → ring.run (forward roms) (slots_of a.args.journal.now) a.args.budget a.args.stop from ≡ ended there (h.loop-settings.steps + 1) excepted
    ends q = turns.ends _ _ a.args.stop turn_is same told rows left_rows from h.loop-settings.steps (left_of c) h.loop-settings.invariant.11 (once_at c) q

-- an effect that sets no row
stays : (c : After) {e : Effect} (told : (decided c).decide-d.result.effect ≡ e) (same : rows_after e (head c).loop-settings.rows ≡ (head c).loop-settings.rows) → enters e ≡ false →
    Onward c told (head c).loop-settings.rows same (head c).loop-settings.invariant.6 (looked c).looked-look.result.limit (goes_at c).next (pages_at c) (known_at c)
stays c told same quiet = onward c told (head c).loop-settings.rows same (head c).loop-settings.invariant.6 (looked c).looked-look.result.limit (goes_at c).next (pages_at c) (known_at c) quiet

pub loop-settings-init : goal.loop-settings-init
loop-settings-init c =
    let start = c.before.before.before.before.before.before.before.before.before.before.before.before.before.before in
    (next_look _ 0 _ _ (omega arith) c.next_look-limit.ensures, refl, refl, refl, start.requires.told, start.requires.ready, start.requires.table, start.requires.fourteen, start.requires.zero, refl, knows_none _ _, reached_start _ _ _ _ _)

pub looked-look-requires : goal.looked-look-requires
looked-look-requires c =
    let h = c.before.before.before.before in
    let at = h.loop-settings.invariant.0 in
    record { steps_le_budget = omega (arith, at.below, at.most); whole = whole_at h; holds_zero = h.loop-settings.invariant.8 }

pub start-after-requires : goal.start-after-requires
start-after-requires c =
    let h = head_of c.before.before.before.before.before.before in
    record {
      fourteen = h.loop-settings.invariant.7;
      told = h.loop-settings.invariant.4;
      short = rw h.loop-settings.invariant.2 (entry h).requires.short;
      ready = h.loop-settings.invariant.5;
    }

pub follow-requires : goal.follow-requires
follow-requires c =
    let h = head_of c.before.before.before.before.before.before.before.before.before.before.before.before.before.before.before.before in
    record { ram_len_bound = (whole_at h).ram.few; known = rw h.loop-settings.invariant.1 h.loop-settings.invariant.10 }

pub decide-d-requires : goal.decide-d-requires
decide-d-requires c =
    let h = head_of c.before.before.before.before.before.before.before.before.before.before.before.before.before.before.before.before.before.before.before in
    record { whole = whole_at h; holds_zero = h.loop-settings.invariant.8; known = c.follow.ensures }

pub finish-turned-requires : goal.finish-turned-requires
finish-turned-requires c =
    let decided = c.before.before.before.before.before.before.before.before in
    let started = decided.before.before.before.before.before.before.before.before.before.before.before.before.before in
    let h = head_of started.before.before.before.before.before.before in
    let framed = (entry h).requires.framed in
    let long = h.loop-settings.invariant.9 in
    record {
      ready = still_ready (begun_record (parts_at h) (beside_at h)) h.loop-settings.invariant.5 (length_printers h.loop-settings.words) started.start-after.ensures.journal_after;
      fits_ram = record { whole_frames = rw h.loop-settings.invariant.1 framed.whole_frames; sixteen_each = rw (long, h.loop-settings.invariant.1) framed.sixteen_each };
      within = within_at decided;
      told = started.start-after.ensures.tick_is.told;
      whole = whole_at h;
    }

pub overflow_add-steps : goal.overflow_add-steps
overflow_add-steps c = omega (arith, left_of c.before, (entry (head c.before)).ranges.budget.fits)

pub loop-settings-smaller-else-stop : goal.loop-settings-smaller-else-stop
loop-settings-smaller-else-stop c = omega (arith, left_of c.before.before.before)

pub loop-settings-preserved-else-stop : goal.loop-settings-preserved-else-stop
loop-settings-preserved-else-stop c =
    let m = c.before.before.before in
    again m c.in-Raise.is (head m).loop-settings.rows refl (head m).loop-settings.invariant.6 (looked m).looked-look.result.limit (goes_at m).next (pages_at m) (known_at m) (rw c.if-stop.false)

pub loop-settings-smaller-in-TlbRow : goal.loop-settings-smaller-in-TlbRow
loop-settings-smaller-in-TlbRow c = omega (arith, left_of c.before.before.before.before)

pub loop-settings-preserved-in-TlbRow : goal.loop-settings-preserved-in-TlbRow
loop-settings-preserved-in-TlbRow c =
    let m = c.before.before.before.before in
    let rows = (head m).loop-settings.rows in
    let told = c.in-TlbRow.is in
    let few = rw (← (head m).loop-settings.invariant.6) at (turns.in_rows _ 16 told (within_at (decided m))) in
    let left = left_of m in
    onward m told c.write-written.result (sym (c.write-written.ensures ∙ written_row rows _ few _))
    (ap (λ (l : List Row). length l) c.write-written.ensures ∙ length_written rows _ _ ∙ (head m).loop-settings.invariant.6) c.next_look-limit-in-TlbRow.result
    (next_look c.write-written.result ((head m).loop-settings.steps + 1) _ c.next_look-limit-in-TlbRow.result (omega arith) c.next_look-limit-in-TlbRow.ensures) _ (knows_none c.write-written.result _) refl

pub loop-settings-smaller-in-Nothing : goal.loop-settings-smaller-in-Nothing
loop-settings-smaller-in-Nothing c = omega (arith, left_of c.before.before)

pub loop-settings-preserved-in-Nothing : goal.loop-settings-preserved-in-Nothing
loop-settings-preserved-in-Nothing c = stays c.before.before c.in-Nothing.is refl refl

pub loop-settings-smaller-in-Register : goal.loop-settings-smaller-in-Register
loop-settings-smaller-in-Register c = omega (arith, left_of c.before.before)

pub loop-settings-preserved-in-Register : goal.loop-settings-preserved-in-Register
loop-settings-preserved-in-Register c = stays c.before.before c.in-Register.is refl refl

pub loop-settings-smaller-in-HiLo : goal.loop-settings-smaller-in-HiLo
loop-settings-smaller-in-HiLo c = omega (arith, left_of c.before.before)

pub loop-settings-preserved-in-HiLo : goal.loop-settings-preserved-in-HiLo
loop-settings-preserved-in-HiLo c = stays c.before.before c.in-HiLo.is refl refl

pub loop-settings-smaller-in-Control : goal.loop-settings-smaller-in-Control
loop-settings-smaller-in-Control c = omega (arith, left_of c.before.before)

pub loop-settings-preserved-in-Control : goal.loop-settings-preserved-in-Control
loop-settings-preserved-in-Control c = stays c.before.before c.in-Control.is refl refl

pub loop-settings-smaller-in-Entry : goal.loop-settings-smaller-in-Entry
loop-settings-smaller-in-Entry c = omega (arith, left_of c.before.before)

pub loop-settings-preserved-in-Entry : goal.loop-settings-preserved-in-Entry
loop-settings-preserved-in-Entry c = stays c.before.before c.in-Entry.is refl refl

pub loop-settings-smaller-in-Ram : goal.loop-settings-smaller-in-Ram
loop-settings-smaller-in-Ram c = omega (arith, left_of c.before.before)

pub loop-settings-preserved-in-Ram : goal.loop-settings-preserved-in-Ram
loop-settings-preserved-in-Ram c = stays c.before.before c.in-Ram.is refl refl

pub loop-settings-smaller-in-DeviceLoad : goal.loop-settings-smaller-in-DeviceLoad
loop-settings-smaller-in-DeviceLoad c = omega (arith, left_of c.before.before)

pub loop-settings-preserved-in-DeviceLoad : goal.loop-settings-preserved-in-DeviceLoad
loop-settings-preserved-in-DeviceLoad c = stays c.before.before c.in-DeviceLoad.is refl refl

pub loop-settings-smaller : goal.loop-settings-smaller
loop-settings-smaller c = omega (arith, left_of c.before.before)

pub loop-settings-preserved : goal.loop-settings-preserved
loop-settings-preserved c = stays c.before.before c.in-DeviceStore.is refl refl

pub shape_of-ram-then-look : goal.shape_of-ram-then-look
shape_of-ram-then-look c = (head_of c.before.before).loop-settings.invariant.1

pub shape_of-paper-then-look : goal.shape_of-paper-then-look
shape_of-paper-then-look c = (head_of c.before.before).loop-settings.invariant.2

pub shape_of-journal-then-look : goal.shape_of-journal-then-look
shape_of-journal-then-look c = (head_of c.before.before).loop-settings.invariant.3

pub shape_of-index-then-look : goal.shape_of-index-then-look
shape_of-index-then-look c = (head_of c.before.before).loop-settings.invariant.9

pub returns-then-look : goal.returns-then-look
returns-then-look c =
    let asked = c.before.before in
    let h = head_of asked in
    sym
    (look_ends h.loop-settings.rows h.loop-settings.steps h.loop-settings.limit (entry h).args.budget (asks h) asked.looked-look.result asked.looked-look.ensures h.loop-settings.invariant.0 _ _ _ _ _
    h.loop-settings.invariant.11 (sym (halts_ahead (parts_at h) (entry h).args.settings (beside_at h))) c.if-look.true)

pub shape_of-ram-then-stop : goal.shape_of-ram-then-stop
shape_of-ram-then-stop c = let m = c.before.before.before in (finished m).finish-turned.auto.ram ∙ (head m).loop-settings.invariant.1

pub shape_of-paper-then-stop : goal.shape_of-paper-then-stop
shape_of-paper-then-stop c = let m = c.before.before.before in (started m).start-after.auto.paper ∙ (head m).loop-settings.invariant.2

pub shape_of-journal-then-stop : goal.shape_of-journal-then-stop
shape_of-journal-then-stop c = let m = c.before.before.before in journal_long m ∙ (head m).loop-settings.invariant.3

pub shape_of-index-then-stop : goal.shape_of-index-then-stop
shape_of-index-then-stop c = let m = c.before.before.before in index_long m ∙ (head m).loop-settings.invariant.9

pub returns-then-stop : goal.returns-then-stop
returns-then-stop c =
    let m = c.before.before.before in
    sym (ends m c.in-Raise.is (head m).loop-settings.rows refl (head m).loop-settings.invariant.6 (looked m).looked-look.result.limit (goes_at m).next (pages_at m) (known_at m) (rw c.if-stop.true))
