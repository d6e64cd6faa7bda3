-- What stays in range: an answer, an intent, an effect.
use Rattle.std.specs.Prelude.{ℕ, ◌+◌, ◌%◌, ◌≤◌, ◌<◌, ◌≡◌, Result, Ok, Err}
use Rattle.board.specs.Places.{device_size}
use Rattle.reach.specs.declared.Fault.{Fault}
use Rattle.board.specs.declared.places.Place.{Place}
use Rattle.intend.specs.declared.intent.Intent.{Intent}
use Rattle.intend.specs.declared.intent.Intent.TheVariants as intent
use Rattle.decide.specs.Lent.{Lent, Room}
use Rattle.decide.specs.declared.effect.Effect.{Effect}
use Rattle.decide.specs.declared.effect.Effect.TheVariants.{Nothing, Register, HiLo, Control, Entry, TlbRow, Ram, DeviceLoad, DeviceStore, Raise}

-- ---- aids to proofs: nothing that a reader must believe

abbrev pub Held : Lent → Result Place Fault → Type 0
Held lent (Ok place) = Room lent place
Held lent (Err fault) = Unit {0}

-- rows is the size of the translation table
abbrev pub Asks : Lent → ℕ → Intent → Type 0
Asks lent rows (intent.Write d v) = d < 32
Asks lent rows (intent.Branch d v next) = d < 32
Asks lent rows (intent.HiLo hi lo) = Unit {0}
Asks lent rows (intent.Load op d va answer) = (d < 32) × Held lent answer
Asks lent rows (intent.Store op x va answer) = Held lent answer
Asks lent rows (intent.SetControl r word) = Unit {0}
Asks lent rows (intent.SetEntry row) = Unit {0}
Asks lent rows (intent.SetRow i row) = i < rows
Asks lent rows (intent.Trap code coprocessor) = Unit {0}

-- room is the length of RAM
abbrev pub Within : ℕ → ℕ → Effect → Type 0
Within room rows Nothing = Unit {0}
Within room rows (Register d v) = (0 < d) × (d < 32)
Within room rows (HiLo hi lo) = Unit {0}
Within room rows (Control r word) = Unit {0}
Within room rows (Entry row) = Unit {0}
Within room rows (TlbRow i high low) = i < rows
Within room rows (Ram at word) = (at % 4 ≡ 0) × (at + 4 ≤ room)
Within room rows (DeviceLoad d at) = (0 < d) × (d < 32) × (at < device_size)
Within room rows (DeviceStore at word) = (at < device_size) × (at % 4 ≡ 0)
Within room rows (Raise e) = Unit {0}
