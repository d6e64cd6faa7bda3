-- What a step decides from words that keep the rules are words again, and leaves CP0 and the table keeping them: `decide_proper`.
use Rattle.std.specs.Prelude.{Result, Ok, Err}
use Prim.Native.Nat.{ℕ, ◌<◌}
use mathlib.Core.List.{List}
use native.Mathlib.Omega.{arith}
use lib.ListN.{length}
use Rattle.word.proofs.Cond.{picked}
use Rattle.isa.specs.Opcode.{decode_of}
use Rattle.cp0.specs.Interrupt.{interrupts_of}
use Rattle.tlb.specs.declared.Row.{Row}
use Rattle.reach.specs.declared.Fault.{Fault}
use Rattle.board.specs.declared.places.Place.{Place}
use Rattle.reach.specs.declared.access.Kind.TheVariants.{Fetch}
use Rattle.reach.specs.declared.access.Width.TheVariants.{Four}
use Rattle.state.specs.declared.machine.Core.{Core}
use Rattle.intend.specs.Access.{reached_of}
use Rattle.intend.specs.Codes.{code_int}
use Rattle.intend.specs.Intend.{intend_of}
use Rattle.decide.specs.Decide.{execute_of, fetched_of, decide_of}
use Rattle.decide.specs.Lent.{Lent, sizes_of, word_in, Whole}
use Rattle.proper.specs.Proper.{Sources, Proper}
use Rattle.proper.proofs.Coded.{Coded, reached_coded}
use Rattle.proper.proofs.Means.{intend_means}
use Rattle.proper.proofs.Settled.{pc_word, refused_proper, trapped_proper, settle_proper}

module _ (core : Core) (pending : ℕ) (regs : List ℕ) (t : List Row) (lent : Lent) (some : 0 < length t) (s : Sources core pending regs t lent) where
  execute_proper : (word : ℕ) → Proper core pending (execute_of core regs t lent word)
  unfolding execute_of
  execute_proper word =
      settle_proper core pending regs t lent s (intend_of core regs t (sizes_of lent) (decode_of word)) (intend_means core pending regs t lent (sizes_of lent) some s (decode_of word))

  fetched_proper : (answer : Result Place Fault) → Coded answer → Proper core pending (fetched_of core regs t lent answer)
  fetched_proper (Ok place) h = execute_proper (word_in lent place)
  fetched_proper (Err fault) h = refused_proper core pending regs t lent s fault.code fault.miss core.pc h (pc_word core pending regs t lent s)

  decided : Proper core pending (decide_of core regs t lent)
  unfolding decide_of
  decided =
      picked (Proper core pending) (interrupts_of core.cp0.status core.cp0.cause) _ _ (λ _. trapped_proper core pending regs t lent s code_int 0 (omega arith))
      (λ _. fetched_proper (reached_of Fetch Four core.cp0 t (sizes_of lent) core.pc) (reached_coded Fetch Four core.cp0 t (sizes_of lent) core.pc))

pub decide_proper : (core : Core) (pending : ℕ) (regs : List ℕ) (t : List Row) (lent : Lent) → Whole lent → 0 < length t
    → Sources core pending regs t lent → Proper core pending (decide_of core regs t lent)
decide_proper core pending regs t lent whole some s = decided core pending regs t lent some s
