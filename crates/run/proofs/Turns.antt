-- A turn of the loop is one step of the run, over plain values: the walk of the code hands its facts over by name.
use Rattle.std.specs.Prelude.{◌≡◌, ℕ, ◌+◌, ◌/◌, ◌<◌, Bool, true, false, ◌&&◌, List, length}
use mathlib.Core.Path.{sym, ap, ◌∙◌}
use Rattle.ring.specs.Machine.{Forward}
use Rattle.ring.specs.Run.{Config, advance, ended, excepted}
use Rattle.ring.specs.Run as ring
use Rattle.ring.specs.Slots.{written}
use Rattle.ring.proofs.Run.{Reached, reached_goes, reached_stops}
use Rattle.ring.proofs.Slots.{sound_written}
use Rattle.record.specs.Layout.{record_bytes}
use Rattle.record.proofs.Stored.{length_bytes}
use Rattle.journal.specs.Journal.{slots_of, ring_of, Ready}
use Rattle.tlb.specs.declared.Row.{Row}
use Rattle.state.specs.declared.machine.Settings.{Settings}
use Rattle.decide.specs.Lent.{Whole, lent_of}
use Rattle.decide.specs.Range.{Within}
use Rattle.decide.specs.declared.effect.Effect.{Effect}
use Rattle.decide.specs.declared.effect.Effect.TheVariants.{TlbRow}
use Rattle.held.proofs.Board.{length_printers}
use Rattle.step.specs.World.{World, Roms}
use Rattle.step.specs.Step.{enters, raises_of, halts_of, step_of}
use Rattle.step.specs.Note.{note_of}
use Rattle.turn.specs.Buffers.{Beside, roms_in}
use Rattle.turn.specs.Turn.{world_held, TurnIs}
use Rattle.turn.specs.declared.Parts.{Parts}
use Rattle.indexed.specs.Ahead.{tag_of, onward_of}
use Rattle.marks.specs.Index.{distance_in, ahead}
use Rattle.run.specs.Run.{forward}
use Rattle.run.specs.Spin.{config_of}

pub still_whole : {execution bootstrap ram ram' : List ℕ} → length ram' ≡ length ram → Whole (lent_of execution bootstrap ram) → Whole (lent_of execution bootstrap ram')
still_whole long w =
    record {
      execution = w.execution;
      bootstrap = w.bootstrap;
      ram = record { whole = rw long w.ram.whole; few = rw long w.ram.few };
    }

-- a record is as long as a slot
note_long : (distance : ℕ) (roms : Roms) (w : World) → length w.board.line.printers ≡ 8 → length (record_bytes (note_of distance roms w)) ≡ 512
unfolding note_of
note_long distance roms w eight = length_bytes (note_of distance roms w) eight

pub in_rows : (room rows : ℕ) {i high low : ℕ} {e : Effect} → e ≡ TlbRow i high low → Within room rows e → i < rows
in_rows room rows is w = rw is at w

-- the parts with the table that the loop then has
abbrev pub with_rows : List Row → Parts → Parts
with_rows rows p = record { core = p.core; held = p.held; regs = p.regs; rows = rows; words = p.words; mark = p.mark }

module _ (n budget : ℕ) (stop : Bool) {settings : Settings} {p p' : Parts} {b b' : Beside} {e : Effect} (turned : TurnIs settings p b e p' b') where
  abbrev roms : Roms
  roms = roms_in b

  abbrev F : Forward
  F = forward roms

  abbrev before : World
  before = world_held p settings b

  abbrev here : Config F
  here = config_of roms settings p b

  abbrev there : List Row → Config F
  there rows = config_of roms settings (with_rows rows p') b'

  -- what the record keeps, of n slots
  abbrev distance : ℕ → ℕ
  distance n = distance_in (tag_of (ahead roms) n (ring_of p.mark b.journal) before b.index)

  -- the journal is ready for the next turn
  pub ready : length b'.journal ≡ length b.journal → Ready b.journal p.mark → Ready b'.journal p'.mark
  ready long was =
      let same : slots_of b'.journal ≡ slots_of b.journal = ap (λ (k : ℕ). k / 512) long in
      record {
        few = rw long was.few;
        sound =
            rw (same, turned.ring_is)
            (sound_written 512 (slots_of b.journal) (record_bytes (note_of (distance (slots_of b.journal)) roms before)) (ring_of p.mark b.journal)
            (note_long (distance (slots_of b.journal)) roms before (length_printers p.words)) was.sound);
      }

  module _ (same : slots_of b.journal ≡ n) {known : Effect} (told : e ≡ known) (rows : List Row) (put : p'.rows ≡ rows) where
    state_is : (there rows).state ≡ step_of roms before
    state_is = ap (λ (l : List Row). world_held (with_rows l p') settings b') (sym put) ∙ turned.world_is

    side_is : (there rows).side ≡ onward_of (ahead roms) n here.ring before b.index
    side_is = turned.index_is ∙ ap (λ (k : ℕ). onward_of (ahead roms) k here.ring before b.index) same

    ring_is : (there rows).ring ≡ written 512 n (record_bytes (note_of (distance n) roms before)) (ring_of p.mark b.journal)
    ring_is = turned.ring_is ∙ ap (λ (k : ℕ). written 512 k (record_bytes (note_of (distance k) roms before)) (ring_of p.mark b.journal)) same

    advances : there rows ≡ advance F n here
    unfolding advance
    advances = rw (state_is, side_is, ring_is)

    raises : raises_of roms before ≡ enters known
    raises = ap enters (sym turned.effect_is ∙ told)

    module _ (c₀ : Config F) (j : ℕ) (left : j < budget) (reached : Reached F n budget stop c₀ j here) (once : halts_of roms before ≡ false) where
      pub goes : (stop && enters known) ≡ false → Reached F n budget stop c₀ (j + 1) (there rows)
      goes q = rw advances (reached_goes F n budget stop c₀ j here left reached once (rw raises q))

      pub ends : (stop && enters known) ≡ true → ring.run F n budget stop c₀ ≡ ended (there rows) (j + 1) excepted
      ends q = rw advances (reached_stops F n budget stop c₀ j here left reached once (rw raises q))
