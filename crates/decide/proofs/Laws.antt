-- Every effect of a step is in range: `decide_within`.
use Rattle.std.specs.Prelude.{Result, Ok, Err}
use Prim.{tt}
use Prim.Native.Nat.{ℕ, ◌<◌}
use mathlib.Core.Path.{◌≡◌}
use mathlib.Core.List.{List}
use native.Mathlib.Omega.{arith}
use lib.Dec.{eqb}
use lib.ListN.{length}
use borrow.Author.Tests.{eqb-false}
use Rattle.word.proofs.Cond.{picked}
use Rattle.isa.specs.Opcode.{decode_of}
use Rattle.isa.specs.declared.instr.LoadOp.{LoadOp}
use Rattle.isa.specs.declared.instr.StoreOp.{StoreOp}
use Rattle.board.specs.declared.places.Place.{Place}
use Rattle.board.specs.declared.places.Place.TheVariants.{Ram, Execution, Bootstrap, Device}
use Rattle.cp0.specs.Interrupt.{interrupts_of}
use Rattle.tlb.specs.declared.Row.{Row}
use Rattle.reach.specs.declared.Fault.{Fault}
use Rattle.reach.specs.declared.access.Kind.TheVariants.{Fetch}
use Rattle.reach.specs.declared.access.Width.TheVariants.{Four}
use Rattle.state.specs.declared.machine.Core.{Core}
use Rattle.intend.specs.Access.{reached_of}
use Rattle.intend.specs.Intend.{intend_of}
use Rattle.intend.specs.declared.intent.Intent.{Intent}
use Rattle.intend.specs.declared.intent.Intent.TheVariants as intent
use Rattle.decide.specs.Lent.{Lent, sizes_of, word_in, Whole, Room}
use Rattle.decide.specs.Settle.{to_register, loads_of, stores_of, settle_of}
use Rattle.decide.specs.Decide.{execute_of, fetched_of, decide_of}
use Rattle.decide.specs.Range.{Asks, Within}
use Rattle.decide.specs.declared.effect.Effect.{Effect}
use Rattle.decide.specs.declared.effect.Effect.TheVariants as effect
use Rattle.decide.specs.declared.effect.Decision.{Decision}
use Rattle.decide.proofs.Asks.{decoded_asks}

module _ (lent : Lent) (rows : ℕ) where
  -- register 0 is left out
  to_register_within : (d : ℕ) (e : Effect) → (0 < d → Within (length lent.ram) rows e) → Within (length lent.ram) rows (to_register d e)
  to_register_within d e h =
      picked (Within (length lent.ram) rows) (eqb d 0) effect.Nothing e (λ _. tt)
      (λ f. let apart : d ≡ 0 → ⊥ = eqb-false d 0 f in h (omega arith))

  loads_within : (op : LoadOp) (d old word : ℕ) (place : Place) → d < 32 → Room lent place → Within (length lent.ram) rows (loads_of op d old word place)
  loads_within op d old word (Ram at) small room = to_register_within d _ (λ above. (above, small))
  loads_within op d old word (Execution at) small room = to_register_within d _ (λ above. (above, small))
  loads_within op d old word (Bootstrap at) small room = to_register_within d _ (λ above. (above, small))
  loads_within op d old word (Device at) small room = to_register_within d _ (λ above. (above, small, room.0))

  stores_within : (op : StoreOp) (x word : ℕ) (place : Place) → Room lent place → Within (length lent.ram) rows (stores_of op x word place)
  stores_within op x word (Ram at) room = (omega arith, room)
  stores_within op x word (Execution at) room = tt
  stores_within op x word (Bootstrap at) room = tt
  stores_within op x word (Device at) room = room

  module _ (core : Core) (regs : List ℕ) where
    abbrev Stays : Decision → Type 0
    Stays d = Within (length lent.ram) rows d.effect

    settle_within : (i : Intent) → Asks lent rows i → Stays (settle_of core regs lent i)
    unfolding settle_of
    settle_within (intent.Write d v) small = to_register_within d _ (λ above. (above, small))
    settle_within (intent.Branch d v next) small = to_register_within d _ (λ above. (above, small))
    settle_within (intent.HiLo hi lo) asks = tt
    settle_within (intent.Load op d va (Ok place)) asks = loads_within op d _ _ place asks.0 asks.1
    settle_within (intent.Load op d va (Err fault)) asks = tt
    settle_within (intent.Store op x va (Ok place)) asks = stores_within op x _ place asks
    settle_within (intent.Store op x va (Err fault)) asks = tt
    settle_within (intent.SetControl r word) asks = tt
    settle_within (intent.SetEntry row) asks = tt
    settle_within (intent.SetRow i row) asks = asks
    settle_within (intent.Trap code coprocessor) asks = tt

module _ (lent : Lent) (whole : Whole lent) (t : List Row) (rows : 0 < length t) (core : Core) (regs : List ℕ) where
  abbrev In : Decision → Type 0
  In d = Within (length lent.ram) (length t) d.effect

  execute_within : (word : ℕ) → In (execute_of core regs t lent word)
  unfolding execute_of
  execute_within word =
      settle_within lent (length t) core regs (intend_of core regs t (sizes_of lent) (decode_of word)) (decoded_asks lent t whole rows core regs word)

  fetched_within : (answer : Result Place Fault) → In (fetched_of core regs t lent answer)
  fetched_within (Ok place) = execute_within (word_in lent place)
  fetched_within (Err fault) = tt

  pub decide_within : In (decide_of core regs t lent)
  unfolding decide_of
  decide_within =
      picked In (interrupts_of core.cp0.status core.cp0.cause) _ _ (λ _. tt)
      (λ _. fetched_within (reached_of Fetch Four core.cp0 t (sizes_of lent) core.pc))
