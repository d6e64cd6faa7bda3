-- What a step decides, from what its fetch gave.
use Rattle.std.specs.Prelude.{Result, Ok, Err}
use mathlib.Core.Path.{◌≡◌, refl}
use mathlib.Core.Bool.{false}
use mathlib.Core.List.{List}
use Prim.Native.Nat.{ℕ}
use Rattle.cp0.specs.Interrupt.{interrupts_of}
use Rattle.tlb.specs.declared.Row.{Row}
use Rattle.reach.specs.declared.Fault.{Fault}
use Rattle.board.specs.declared.places.Place.{Place}
use Rattle.state.specs.declared.machine.Core.{Core}
use Rattle.decide.specs.Lent.{Lent}
use Rattle.decide.specs.Settle.{refused_of}
use Rattle.decide.specs.Fetch.{answered, fetch_of}
use Rattle.decide.specs.Decide.{execute_of, fetched_of, decide_of}
use Rattle.decide.specs.declared.effect.Decision.{Decision}

module _ (core : Core) (regs : List ℕ) (t : List Row) (lent : Lent) where
  abbrev pub done_of : Result ℕ Fault → Decision
  done_of (Ok word) = execute_of core regs t lent word
  done_of (Err fault) = refused_of core fault.code fault.miss core.pc

  pub fetched_done : (answer : Result Place Fault) → fetched_of core regs t lent answer ≡ done_of (answered lent answer)
  fetched_done (Ok place) = refl
  fetched_done (Err fault) = refl

  pub decide_done : {f g : Result ℕ Fault} → interrupts_of core.cp0.status core.cp0.cause ≡ false → f ≡ fetch_of core t lent → f ≡ g → decide_of core regs t lent ≡ done_of g
  unfolding decide_of fetch_of
  decide_done off given is = rw (off, fetched_done _, ← given, is)
