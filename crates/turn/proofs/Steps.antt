-- Tick, decide, note, apply: that is a step. Over plain values, so that the walk of the code hands its facts over by name.
use Prim.Native.Nat.{ℕ, zero, suc, ◌/◌, ◌^◌, ◌≤◌, ◌<◌}
use mathlib.Core.Path.{◌≡◌, refl, sym, ap, ◌∙◌}
use mathlib.Core.Bool.{true}
use mathlib.Core.List.{List, []}
use native.Mathlib.Omega.{arith}
use borrow.Author.Tests.{eq-eqb}
use lib.Dec.{eqb}
use lib.ListN.{length}
use Rattle.board.specs.declared.places.Sizes.{Sizes}
use Rattle.printer.specs.Saved.{saved_paper_of}
use Rattle.printer.specs.declared.Printer.{Printer}
use Rattle.printer.specs.declared.saved.SavedPaper.{SavedPaper}
use Rattle.record.specs.declared.Saved.{Saved}
use Rattle.record.specs.declared.Record.{Record}
use Rattle.tlb.specs.declared.Row.{Row}
use Rattle.state.specs.declared.machine.Core.{Core}
use Rattle.state.specs.declared.machine.Board.{Board}
use Rattle.decide.specs.Decide.{decide_of}
use Rattle.decide.specs.Lent.{Lent, Whole, lent_of, sizes_of}
use Rattle.decide.specs.Range.{Within}
use Rattle.decide.proofs.Laws.{decide_within}
use Rattle.decide.specs.declared.effect.Decision.{Decision}
use Rattle.decide.specs.declared.effect.Effect.{Effect}
use Rattle.clock.specs.Tick.{time_of}
use Rattle.clock.specs.declared.Clock.{Clock}
use Rattle.frames.specs.Bytes.{whole}
use Rattle.indexed.specs.Ahead.{dropped_of, tag_of, onward_of}
use Rattle.marks.specs.Index.{distance_in, ahead}
use Rattle.marks.specs.Steps.{forgotten_of, below_in, kept_of, marked_of}
use Rattle.marks.proofs.Clock.{tick_next}
use Rattle.step.specs.World.{World, Roms, world_of, roms_of, lent_in}
use Rattle.step.specs.Tick.{tick_of}
use Rattle.step.specs.Apply.{applied_of}
use Rattle.step.specs.Parts.{rows_after, old_row, saved_with}
use Rattle.step.specs.Held.{TickIs, ApplyIs}
use Rattle.step.specs.Step.{decision_in, effect_in, step_of}
use Rattle.step.specs.Note.{saved_of, note_of}
use Rattle.step.proofs.Ticks.{tick_parts}
use Rattle.step.proofs.Applied.{apply_parts}
use Rattle.step.proofs.Effects.{saved_row}
use Rattle.step.proofs.Stepped.{step_ram}
use Rattle.ring.specs.Slots.{Ring, slot, slot_back, written}
use Rattle.ring.proofs.Slots.{back_next}
use Rattle.record.specs.Layout.{record_bytes, record_of}
use Rattle.journal.specs.Journal.{slots_of, ring_of, Ready, held_record, begun_of, ended_of, with_saved}
use Rattle.journal.proofs.TwoParts.{begun_ended, begun_ready, begun_saved}
use Rattle.state.specs.declared.machine.Journal.{Journal}
use Rattle.state.specs.declared.machine.Settings.{Settings}
use Rattle.held.specs.Board.{printers_in, board_of}
use Rattle.held.specs.Core.{core_in}
use Rattle.held.specs.declared.Held.{Held}
use Rattle.held.proofs.Board.{length_printers}
use Rattle.turn.specs.Buffers.{Beside, beside_of}
use Rattle.turn.specs.Turn.{lent_from, Onward, forgotten_in, kept_by, kept_in, marked_by, marked_in, TurnIs}
use Rattle.turn.specs.declared.Parts.{Parts}
use Rattle.turn.specs.declared.Turned.{Turned}

module _ (execution bootstrap : List ℕ) (core : Core) (board : Board) (t : List Row) (regs ram paper : List ℕ)
    {core₁ : Core} {board₁ : Board} {paper₁ : List ℕ} {d : Decision}
    (ticked : world_of core₁ board₁ [] [] [] paper₁ ≡ tick_of (world_of core board [] [] [] paper))
    (decided : d ≡ decide_of core₁ regs t (lent_of execution bootstrap ram)) where
  abbrev roms : Roms
  roms = roms_of execution bootstrap

  abbrev before : World
  before = world_of core board regs t ram paper

  ticked_is : tick_of before ≡ world_of core₁ board₁ regs t ram paper₁
  ticked_is =
      tick_parts core board paper regs t ram
      ∙ ap (λ (w : World). world_of w.cpu.core w.board regs t ram w.paper) (sym ticked)

  decision_is : d ≡ decision_in roms (tick_of before)
  decision_is = decided ∙ ap (decision_in roms) (sym ticked_is)

  pub effect_is : d.effect ≡ effect_in roms before
  effect_is = ap (λ (d : Decision). d.effect) decision_is

  -- what is noted is the record of the step
  pub note_is : (distance : ℕ) {kept : SavedPaper} {old : Saved} {printers : List Printer} → kept ≡ saved_paper_of board.line.printers paper →
      old ≡ saved_of distance d.effect regs t ram → printers ≡ board.line.printers →
      ◌≡◌ {A = Record}
      (record {
        core = core;
        timer = board.clock.timer;
        pending = board.line.pending;
        paper = kept;
        saved = old;
        printers = printers;
      })
      (note_of distance roms before)
  unfolding note_of
  note_is distance k o p = rw (k, o, effect_is, p)

  pub step_is : {sizes : Sizes} {core₂ : Core} {board₂ : Board} {regs₂ ram₂ : List ℕ} → sizes ≡ sizes_of (lent_of execution bootstrap ram) →
      world_of core₂ board₂ regs₂ (rows_after d.effect []) ram₂ [] ≡ applied_of sizes d (world_of core₁ board₁ regs [] ram []) →
      world_of core₂ board₂ regs₂ (rows_after d.effect t) ram₂ paper₁ ≡ step_of roms before
  unfolding step_of
  step_is {sizes} sized applied =
      ap (λ (w : World). world_of w.cpu.core w.board w.cpu.regs (rows_after d.effect t) w.ram paper₁) applied
      ∙ sym (apply_parts sizes d core₁ board₁ regs t ram paper₁)
      ∙ ap (λ (s : Sizes). applied_of s d (world_of core₁ board₁ regs t ram paper₁)) sized
      ∙ ap (λ (c : Decision). applied_of (sizes_of (lent_of execution bootstrap ram)) c (world_of core₁ board₁ regs t ram paper₁)) decided
      ∙ ap (λ (w : World). applied_of (sizes_of (lent_in roms w)) (decision_in roms w) w) (sym ticked_is)

-- what is decided fits a table of sixteen rows and RAM
pub decided_fits : {lent : Lent} (whole : Whole lent) (core : Core) (regs : List ℕ) (t : List Row) {d : Decision} → length t ≡ 16 → d ≡ decide_of core regs t lent → Within (length lent.ram) 16 d.effect
decided_fits {lent} whole core regs t sixteen decided =
    let some : 0 < length t = omega arith in
    rw (decided, ← sixteen) (decide_within lent whole t some core regs)

-- the two parts of a record, put down one after the other, are the record in its slot
pub ring_is : (mark : Journal) (journal : List ℕ) → Ready journal mark → (r : Record) (old : Saved) {begun : List ℕ} {left : Ring} {note : Record} →
    length r.printers ≡ 8 → begun ≡ begun_of mark r journal → left ≡ ended_of mark old begun → with_saved old r ≡ note →
    left ≡ written 512 (slots_of journal) (record_bytes note) (ring_of mark journal)
ring_is mark journal ready r old eight first last noted =
    last ∙ ap (ended_of mark old) first ∙ begun_ended mark r old journal eight ready
    ∙ ap (λ (n : Record). written 512 (slots_of journal) (record_bytes n) (ring_of mark journal)) noted

pub still_ready : {mark : Journal} {journal : List ℕ} (r : Record) {begun : List ℕ} → Ready journal mark → length r.printers ≡ 8 → begun ≡ begun_of mark r journal → Ready begun mark
still_ready {mark} {journal} r ready eight first = rw first (begun_ready mark r journal eight ready)

-- ---- the index

module _ (roms : Roms) (g g₁ : Ring) (w : World) (x : List ℕ) (clock : Clock) (e : Effect) (on : Onward w.board.clock clock) (is : e ≡ effect_in roms w)
    (hand : g₁.hand ≡ g.hand) where
  -- the next slot saves the same in both rings
  abbrev Saves : Type 0
  Saves = (record_of (slot 512 g₁.bytes g₁.next)).saved ≡ (record_of (slot 512 g.bytes g.next)).saved

  -- what is forgotten, at the clock after the tick, is what drops off
  forgotten_is : (m : ℕ) → m < 65536 → Saves → forgotten_of (suc m) g₁ (time_of clock) x ≡ dropped_of (ahead roms) m g w x
  forgotten_is m few saves =
      let back : slot_back whole (time_of clock) (suc m) ≡ slot_back whole (time_of w.board.clock) m =
      ap (λ (t : ℕ). slot_back whole t (suc m)) on.next ∙ back_next whole (time_of w.board.clock) m on.small (omega arith) in
      rw (back, saves, hand)

  -- what the record keeps is its tag
  pub kept_is : (n : ℕ) → n ≤ 65536 → (0 < n → Saves) → kept_by n g₁.hand (time_of clock) e (forgotten_of n g₁ (time_of clock) x) ≡ distance_in (tag_of (ahead roms) n g w x)
  kept_is zero few saves = refl
  kept_is (suc m) few saves = rw (forgotten_is m (omega arith) (saves (omega arith)), on.next, is, hand)

  -- what is marked is the index after the step
  pub marked_is : (n : ℕ) → n ≤ 65536 → (0 < n → Saves) → marked_by n (time_of clock) e w.ram (forgotten_of n g₁ (time_of clock) x) ≡ onward_of (ahead roms) n g w x
  marked_is zero few saves = refl
  marked_is (suc m) few saves = rw (forgotten_is m (omega arith) (saves (omega arith)), on.next, is, ← step_ram roms w)

-- the record as it is begun
abbrev pub begun_record : Parts → Beside → Record
begun_record p b = held_record p.core p.held.clock.timer p.held.pending (saved_paper_of (printers_in p.words) b.paper) p.words

-- what the loop has after a turn: the table is what the effect leaves of it
abbrev pub parts_left : Parts → Decision → Turned → (core words regs : List ℕ) → Parts
parts_left p d r core words regs =
    record { core = core; held = r.held; regs = regs; rows = rows_after d.effect p.rows; words = words; mark = r.mark }

-- start, decide, the old row, finish: together a turn
pub turned_is : (settings : Settings) (p : Parts) (b : Beside) → Whole (lent_from b) → Ready b.journal p.mark → length p.rows ≡ 16 →
    {after : Held} {core₁ words₁ paper₁ journal₁ : List ℕ} → TickIs settings p.core p.held p.words b.paper after core₁ words₁ paper₁ →
    journal₁ ≡ begun_of p.mark (begun_record p b) b.journal → length journal₁ ≡ length b.journal → Onward p.held.clock after.clock →
    {core : Core} → core ≡ core_in core₁ →
    {d : Decision} → d ≡ decide_of core p.regs p.rows (lent_from b) →
    {old : Row} → old ≡ old_row d.effect p.rows →
    {r : Turned} {core₂ words₂ regs₂ ram₂ journal₂ index₂ : List ℕ} →
    ApplyIs settings (sizes_of (lent_from b)) d core₁ after words₁ p.regs b.ram r.held core₂ words₂ regs₂ ram₂ →
    ring_of r.mark journal₂ ≡ ended_of p.mark (saved_with (kept_in p.mark journal₁ after.clock d.effect b.index) d.effect p.regs old b.ram) journal₁ →
    index₂ ≡ marked_in p.mark journal₁ after.clock d.effect b.ram b.index →
    TurnIs settings p b d.effect (parts_left p d r core₂ words₂ regs₂) (beside_of b.execution b.bootstrap ram₂ paper₁ journal₂ index₂)
turned_is settings p b whole ready sixteen {after} {core₁ = core₁} {journal₁ = journal₁} ticked begun long on {core} read {d} decided {old} row applied ended marked =
    let x = b.execution in
    let y = b.bootstrap in
    let t = p.rows in
    let from = core_in p.core in
    let board = board_of p.held settings p.words in
    let chosen = decided ∙ ap (λ (c : Core). decide_of c p.regs t (lent_from b)) read in
    let within = rw (← sixteen) at (decided_fits whole core p.regs t sixteen decided) in
    let roms = roms_of x y in
    let here = world_of from board p.regs t b.ram b.paper in
    let g = ring_of p.mark b.journal in
    let n = slots_of b.journal in
    let same : slots_of journal₁ ≡ n = ap (λ (k : ℕ). k / 512) long in
    let effect = effect_is x y from board t p.regs b.ram b.paper ticked.world_is chosen in
    let g₁ = ring_of p.mark journal₁ in
    let few : n ≤ 65536 = omega (arith, ready.few) in
    let saves : 0 < n → (record_of (slot 512 journal₁ p.mark.next_slot)).saved ≡ (record_of (slot 512 b.journal p.mark.next_slot)).saved =
    λ some. rw begun (begun_saved p.mark (begun_record p b) b.journal (length_printers p.words) ready some) in
    let far : ℕ = kept_in p.mark journal₁ after.clock d.effect b.index in
    let far-is : far ≡ distance_in (tag_of (ahead roms) n g here b.index) =
    rw same (kept_is roms g g₁ here b.index after.clock d.effect on effect refl n few saves) in
    let kept =
    ap (λ (o : Row). saved_with far d.effect p.regs o b.ram) row ∙ saved_row far (length b.ram) p.regs t b.ram d.effect within in
    record {
      world_is = step_is x y from board t p.regs b.ram b.paper ticked.world_is chosen refl applied.world_is;
      effect_is = effect;
      ring_is =
          ring_is p.mark b.journal ready (begun_record p b) _ (length_printers p.words) begun ended
          (note_is x y from board t p.regs b.ram b.paper ticked.world_is chosen far refl kept refl)
          ∙ ap (λ (k : ℕ). written 512 n (record_bytes (note_of k roms here)) g) far-is;
      index_is =
          marked
          ∙ rw same (marked_is roms g g₁ here b.index after.clock d.effect on effect refl n few saves);
      told = applied.told;
      fourteen = applied.fourteen;
    }

-- the clock of the run goes on by one
pub clock_next : (settings : Settings) (core : List ℕ) (held : Held) (words paper : List ℕ) (after : Held) (core₁ words₁ paper₁ : List ℕ) →
    TickIs settings core held words paper after core₁ words₁ paper₁ → time_of held.clock < 2 ^ 64 → Onward held.clock after.clock
unfolding tick_of
clock_next settings core held words paper after core₁ words₁ paper₁ ticked small =
    record {
      small = small;
      next = ap (λ (w : World). time_of w.board.clock) ticked.world_is ∙ tick_next held.clock small;
    }

-- ---- with no slots

no_slots : (journal : List ℕ) → length journal < 512 → eqb (slots_of journal) 0 ≡ true
no_slots journal short = eq-eqb (slots_of journal) 0 (omega (arith, short))

pub not_begun : (mark : Journal) (r : Record) (journal : List ℕ) → length journal < 512 → begun_of mark r journal ≡ journal
not_begun mark r journal short = rw (no_slots journal short)

pub not_marked : (mark : Journal) (journal : List ℕ) (clock : Clock) (e : Effect) (ram x : List ℕ) → length journal < 512 → marked_in mark journal clock e ram x ≡ x
not_marked mark journal clock e ram x short =
    let none : slots_of journal ≡ 0 = omega (arith, short) in
    ap (λ (n : ℕ). marked_by n (time_of clock) e ram (forgotten_of n (ring_of mark journal) (time_of clock) x)) none

-- with some, the two are worked out
module _ (mark : Journal) (journal : List ℕ) (clock : Clock) (e : Effect) (x : List ℕ) (some : 512 ≤ length journal) where
  pub kept_some : kept_of (time_of clock) (below_in (slots_of journal) mark.on_hand) e (forgotten_in mark journal clock x) ≡ kept_in mark journal clock e x
  kept_some = go (slots_of journal) (omega arith) (forgotten_in mark journal clock x)
    where
      go : (n : ℕ) → 0 < n → (l : List ℕ) → kept_of (time_of clock) (below_in n mark.on_hand) e l ≡ kept_by n mark.on_hand (time_of clock) e l
      go zero h l = absurd (omega arith)
      go (suc m) h l = refl

  pub marked_some : (ram : List ℕ) → marked_of (time_of clock) e ram (forgotten_in mark journal clock x) ≡ marked_in mark journal clock e ram x
  marked_some ram = go (slots_of journal) (omega arith) (forgotten_in mark journal clock x)
    where
      go : (n : ℕ) → 0 < n → (l : List ℕ) → marked_of (time_of clock) e ram l ≡ marked_by n (time_of clock) e ram l
      go zero h l = absurd (omega arith)
      go (suc m) h l = refl

pub not_ended : (mark : Journal) (old : Saved) (journal : List ℕ) → length journal < 512 → ended_of mark old journal ≡ ring_of mark journal
not_ended mark old journal short = rw (no_slots journal short)
