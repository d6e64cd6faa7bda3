-- Document 01, "One step": "3. If IEc is 1 and IP and IM share a bit, the step is interrupt entry and runs no instruction.
-- 4. Otherwise fetch at PC and execute."
use Rattle.std.specs.Prelude.{ℕ, cond, List, Result, Ok, Err}
use Rattle.isa.specs.Opcode.{decode_of}
use Rattle.cp0.specs.Interrupt.{interrupts_of}
use Rattle.tlb.specs.declared.Row.{Row}
use Rattle.reach.specs.declared.Fault.{Fault}
use Rattle.board.specs.declared.places.Place.{Place}
use Rattle.reach.specs.declared.access.Kind.TheVariants.{Fetch}
use Rattle.reach.specs.declared.access.Width.TheVariants.{Four}
use Rattle.state.specs.declared.machine.Core.{Core}
use Rattle.intend.specs.Codes.{code_int}
use Rattle.intend.specs.Access.{reached_of}
use Rattle.intend.specs.Intend.{intend_of}
use Rattle.decide.specs.Lent.{Lent, sizes_of, word_in}
use Rattle.decide.specs.Settle.{refused_of, trapped_of, settle_of}
use Rattle.decide.specs.declared.effect.Decision.{Decision}

-- core is as the tick left it; t is the translation table
module _ (core : Core) (regs : List ℕ) (t : List Row) (lent : Lent) where
  unfoldable pub execute_of : ℕ → Decision
  execute_of word = settle_of core regs lent (intend_of core regs t (sizes_of lent) (decode_of word))

  abbrev pub fetched_of : Result Place Fault → Decision
  fetched_of (Ok place) = execute_of (word_in lent place)
  fetched_of (Err fault) = refused_of core fault.code fault.miss core.pc

  unfoldable pub decide_of : Decision
  decide_of =
      cond (interrupts_of core.cp0.status core.cp0.cause) (trapped_of core code_int 0)
      (fetched_of (reached_of Fetch Four core.cp0 t (sizes_of lent) core.pc))
