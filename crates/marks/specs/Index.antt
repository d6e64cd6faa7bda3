-- Document 02, L6: the machine of documents 01 and 02 as `indexed` keeps an index of it: which words of RAM a step writes, and what its record says of them.
use Rattle.std.specs.Prelude.{ℕ, List, [], ◌∷◌}
use Rattle.word.specs.Sizes.{record_size}
use Rattle.memory.specs.Memory.{load_at}
use Rattle.clock.specs.Tick.{time_of}
use Rattle.decide.specs.declared.effect.Effect.{Effect}
use Rattle.decide.specs.declared.effect.Effect.TheVariants.{Nothing, Register, HiLo, Control, Entry, TlbRow, Ram, DeviceLoad, DeviceStore, Raise}
use Rattle.record.specs.declared.Saved.{Saved}
use Rattle.record.specs.declared.Saved.TheVariants as saved
use Rattle.record.specs.Layout.{distance_room, record_bytes, record_of}
use Rattle.step.specs.World.{World, Roms}
use Rattle.step.specs.Step.{effect_in, raises_of, halts_of, step_of}
use Rattle.step.specs.Note.{note_of}
use Rattle.indexed.specs.Ahead.{Ahead, Noted}

-- the places of RAM that an effect writes: a step writes at most one word
abbrev pub places_of : Effect → List ℕ
places_of Nothing = []
places_of (Register d word) = []
places_of (HiLo hi lo) = []
places_of (Control r word) = []
places_of (Entry row) = []
places_of (TlbRow i high low) = []
places_of (Ram at word) = at ∷ []
places_of (DeviceLoad d offset) = []
places_of (DeviceStore offset word) = []
places_of (Raise e) = []

-- what a record says of them
abbrev pub noted_in : Saved → List Noted
noted_in saved.Nothing = []
noted_in (saved.Register n old) = []
noted_in (saved.TlbRow i row) = []
noted_in (saved.RamWord place old distance) = record { place = place; old = old; saved = distance } ∷ []

-- the distance of the one place, if there is one
abbrev pub distance_in : List ℕ → ℕ
distance_in [] = 0
distance_in (d ∷ ds) = d

-- one step on
abbrev pub ahead : Roms → Ahead
ahead roms =
    record {
      State = World;
      step = step_of roms;
      stops = raises_of roms;
      halts = halts_of roms;
      size = record_size;
      note = λ ds w. record_bytes (note_of (distance_in ds) roms w);
      clock = λ w. time_of w.board.clock;
      word = λ w place. load_at 4 w.ram place;
      places = λ w. places_of (effect_in roms w);
      noted = λ slot. noted_in (record_of slot).saved;
      bound = distance_room;
    }
