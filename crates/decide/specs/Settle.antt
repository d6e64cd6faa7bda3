-- What an intent then changes, once the address answer is known: the PC pair, whether the next step is a slot, and the effect.
use Rattle.std.specs.Prelude.{ℕ, ◌*◌, ◌/◌, Bool, cond, true, false, List, eqb, Result, Ok, Err}
use Rattle.isa.specs.declared.instr.LoadOp.{LoadOp}
use Rattle.isa.specs.declared.instr.StoreOp.{StoreOp}
use Rattle.board.specs.declared.places.Place.{Place}
use Rattle.board.specs.declared.places.Place.TheVariants as place
use Rattle.cp0.specs.Entry.{vector_of}
use Rattle.cp0.specs.declared.entry.Exception.{Exception}
use Rattle.reach.specs.declared.Fault.{Fault}
use Rattle.state.specs.declared.machine.Core.{Core}
use Rattle.intend.specs.Operand.{reg_of, after_of}
use Rattle.intend.specs.declared.intent.Intent.{Intent}
use Rattle.intend.specs.declared.intent.Intent.TheVariants as intent
use Rattle.decide.specs.Lent.{Lent, word_in}
use Rattle.decide.specs.Part.{load_part, store_part}
use Rattle.decide.specs.declared.effect.Effect.{Effect}
use Rattle.decide.specs.declared.effect.Effect.TheVariants.{Nothing, Register, HiLo, Control, Entry, TlbRow, Ram, DeviceLoad, DeviceStore, Raise}
use Rattle.decide.specs.declared.effect.Decision.{Decision}

-- PC becomes next PC; next PC becomes itself + 4
abbrev pub on_of : Core → Effect → Decision
on_of core effect = record { pc = core.next_pc; next_pc = after_of core.next_pc; branched = false; effect = effect }

-- document 01, "Exception entry": PC goes to the vector, next PC 4 beyond
abbrev pub raised_of : Core → Exception → Decision
raised_of core e =
    record {
      pc = vector_of core.cp0.status e.miss;
      next_pc = after_of (vector_of core.cp0.status e.miss);
      branched = false;
      effect = Raise e;
    }

-- an access that does not land
abbrev pub refused_of : Core → ℕ → Bool → ℕ → Decision
refused_of core code miss address = raised_of core (record { code = code; coprocessor = 0; address = address; miss = miss })

-- an exception that has no address
abbrev pub trapped_of : Core → ℕ → ℕ → Decision
trapped_of core code coprocessor = raised_of core (record { code = code; coprocessor = coprocessor; address = 0; miss = false })

-- register 0 is never written
abbrev pub to_register : ℕ → Effect → Effect
to_register d effect = cond (eqb d 0) Nothing effect

abbrev pub read_of : LoadOp → ℕ → ℕ → ℕ → ℕ → Effect
read_of op d old word at = to_register d (Register d (load_part op old word at))

abbrev pub loads_of : LoadOp → ℕ → ℕ → ℕ → Place → Effect
loads_of op d old word (place.Ram at) = read_of op d old word at
loads_of op d old word (place.Execution at) = read_of op d old word at
loads_of op d old word (place.Bootstrap at) = read_of op d old word at
loads_of op d old word (place.Device at) = to_register d (DeviceLoad d at)

-- no store lands in ROM (`store_not_rom` of reach)
abbrev pub stores_of : StoreOp → ℕ → ℕ → Place → Effect
stores_of op x word (place.Ram at) = Ram (at / 4 * 4) (store_part op x word at)
stores_of op x word (place.Execution at) = Nothing
stores_of op x word (place.Bootstrap at) = Nothing
stores_of op x word (place.Device at) = DeviceStore at x

abbrev pub written_of : ℕ → ℕ → Effect
written_of d v = to_register d (Register d v)

-- a branch or jump, taken or not: next PC becomes what it says, and its link is written
abbrev pub branched_of : Core → ℕ → ℕ → ℕ → Decision
branched_of core d v next = record { pc = core.next_pc; next_pc = next; branched = true; effect = written_of d v }

abbrev pub loaded_of : Core → Lent → LoadOp → ℕ → ℕ → ℕ → Result Place Fault → Decision
loaded_of core lent op d old va (Ok place) = on_of core (loads_of op d old (word_in lent place) place)
loaded_of core lent op d old va (Err fault) = refused_of core fault.code fault.miss va

abbrev pub stored_of : Core → Lent → StoreOp → ℕ → ℕ → Result Place Fault → Decision
stored_of core lent op x va (Ok place) = on_of core (stores_of op x (word_in lent place) place)
stored_of core lent op x va (Err fault) = refused_of core fault.code fault.miss va

module _ (core : Core) (regs : List ℕ) (lent : Lent) where
  unfoldable pub settle_of : Intent → Decision
  settle_of (intent.Write d v) = on_of core (written_of d v)
  settle_of (intent.Branch d v next) = branched_of core d v next
  settle_of (intent.HiLo hi lo) = on_of core (HiLo hi lo)
  settle_of (intent.Load op d va reached) = loaded_of core lent op d (reg_of regs d) va reached
  settle_of (intent.Store op x va reached) = stored_of core lent op x va reached
  settle_of (intent.SetControl r word) = on_of core (Control r word)
  settle_of (intent.SetEntry row) = on_of core (Entry row)
  settle_of (intent.SetRow i row) = on_of core (TlbRow i row.high row.low)
  settle_of (intent.Trap code coprocessor) = trapped_of core code coprocessor
