-- What an intent of words that keep the rules then changes are words again, and keeps them: `settle_proper`.
use Rattle.std.specs.Prelude.{Ok, Err}
use Prim.{tt}
use Prim.Native.Nat.{ℕ, ◌^◌, ◌≤◌, ◌<◌}
use mathlib.Core.Bool.{Bool, false}
use mathlib.Core.List.{List}
use native.Mathlib.Omega.{arith}
use lib.Dec.{eqb}
use Rattle.word.specs.Map.{bit}
use Rattle.word.proofs.Cond.{picked}
use Rattle.isa.specs.declared.instr.LoadOp.{LoadOp}
use Rattle.isa.specs.declared.instr.StoreOp.{StoreOp}
use Rattle.board.specs.declared.places.Place.{Place}
use Rattle.board.specs.declared.places.Place.TheVariants.{Ram, Execution, Bootstrap, Device}
use Rattle.cp0.specs.Entry.{vector_of}
use Rattle.cp0.specs.declared.entry.Exception as entry
use Rattle.tlb.specs.declared.Row.{Row}
use Rattle.state.specs.Slot.{in_slot, return_of}
use Rattle.state.specs.declared.machine.Core.{Core}
use Rattle.intend.specs.Operand.{reg_of}
use Rattle.intend.specs.declared.intent.Intent.{Intent}
use Rattle.intend.specs.declared.intent.Intent.TheVariants as intent
use Rattle.decide.specs.Lent.{Lent, word_in}
use Rattle.decide.specs.Settle.{on_of, raised_of, refused_of, trapped_of, to_register, loads_of, stores_of, settle_of, written_of}
use Rattle.decide.specs.declared.effect.Effect.{Effect}
use Rattle.decide.specs.declared.effect.Effect.TheVariants as effect
use Rattle.proper.specs.Proper.{Sources, Leaves, Proper}
use Rattle.proper.proofs.Controls.{Means}
use Rattle.proper.proofs.Entered.{entered_good}
use Rattle.proper.proofs.Merged.{Bytes, word_in_small, load_part_word, store_part_word}
use Rattle.proper.proofs.Words.{after_small}

vector_word : (status : ℕ) (miss : Bool) → vector_of status miss < 2 ^ 32
unfolding vector_of
vector_word status miss =
    picked (λ x. x < 2 ^ 32) miss _ _ (λ _. picked (λ x. x < 2 ^ 32) (bit 22 status) _ _ (λ _. omega arith) (λ _. omega arith))
    (λ _. picked (λ x. x < 2 ^ 32) (bit 22 status) _ _ (λ _. omega arith) (λ _. omega arith))

module _ (core : Core) (pending : ℕ) where
  -- register 0 is left out
  to_register_leaves : (d : ℕ) (e : Effect) → Leaves core pending e → Leaves core pending (to_register d e)
  to_register_leaves d e h = picked (Leaves core pending) (eqb d 0) effect.Nothing e (λ _. tt) (λ _. h)

  loads_leaves : (op : LoadOp) (d old word : ℕ) (place : Place) → word < 2 ^ 32 → Leaves core pending (loads_of op d old word place)
  loads_leaves op d old word (Ram at) h = to_register_leaves d _ (load_part_word op old word at h)
  loads_leaves op d old word (Execution at) h = to_register_leaves d _ (load_part_word op old word at h)
  loads_leaves op d old word (Bootstrap at) h = to_register_leaves d _ (load_part_word op old word at h)
  loads_leaves op d old word (Device at) h = to_register_leaves d _ tt

  stores_leaves : (op : StoreOp) (x word : ℕ) (place : Place) → x < 2 ^ 32 → Leaves core pending (stores_of op x word place)
  stores_leaves op x word (Ram at) h = store_part_word op x word at h
  stores_leaves op x word (Execution at) h = tt
  stores_leaves op x word (Bootstrap at) h = tt
  stores_leaves op x word (Device at) h = h

module _ (core : Core) (pending : ℕ) (regs : List ℕ) (t : List Row) (lent : Lent) (s : Sources core pending regs t lent) where
  pub pc_word : core.pc < 2 ^ 32
  pc_word = s.words 2 (omega arith)

  next_word : core.next_pc < 2 ^ 32
  next_word = s.words 3 (omega arith)

  return_word : return_of core < 2 ^ 32
  return_word = picked (λ x. x < 2 ^ 32) (in_slot core) _ _ (λ _. s.words 13 (omega arith)) (λ _. pc_word)

  bytes : Bytes lent
  bytes = record { execution = s.execution; bootstrap = s.bootstrap; ram = s.ram }

  -- the step goes on
  on_proper : (e : Effect) → Leaves core pending e → Proper core pending (on_of core e)
  on_proper e h = record { pc = next_word; next = after_small core.next_pc; leaves = h }

  raised_proper : (e : entry.Exception) → e.code ≤ 12 → e.address < 2 ^ 32 → Proper core pending (raised_of core e)
  raised_proper e code address =
      record {
        pc = vector_word core.cp0.status e.miss;
        next = after_small (vector_of core.cp0.status e.miss);
        leaves = entered_good e (in_slot core) (return_of core) core.cp0 pending code address return_word s.control;
      }

  pub refused_proper : (code : ℕ) (miss : Bool) (address : ℕ) → code ≤ 12 → address < 2 ^ 32 → Proper core pending (refused_of core code miss address)
  refused_proper code miss address h l = raised_proper (record { code = code; coprocessor = 0; address = address; miss = miss }) h l

  pub trapped_proper : (code coprocessor : ℕ) → code ≤ 12 → Proper core pending (trapped_of core code coprocessor)
  trapped_proper code coprocessor h =
      raised_proper (record { code = code; coprocessor = coprocessor; address = 0; miss = false }) h (omega arith)

  pub settle_proper : (i : Intent) → Means core.cp0 pending i → Proper core pending (settle_of core regs lent i)
  unfolding settle_of
  settle_proper (intent.Write d v) h = on_proper (written_of d v) (to_register_leaves core pending d _ h)
  settle_proper (intent.Branch d v next) h = record { pc = next_word; next = h.1; leaves = to_register_leaves core pending d _ h.0 }
  settle_proper (intent.HiLo hi lo) h = on_proper (effect.HiLo hi lo) h
  settle_proper (intent.Load op d va (Ok place)) h =
      on_proper (loads_of op d (reg_of regs d) (word_in lent place) place) (loads_leaves core pending op d (reg_of regs d) (word_in lent place) place (word_in_small lent bytes place))
  settle_proper (intent.Load op d va (Err fault)) h = refused_proper fault.code fault.miss va h.1 h.0
  settle_proper (intent.Store op x va (Ok place)) h =
      on_proper (stores_of op x (word_in lent place) place) (stores_leaves core pending op x (word_in lent place) place h.0)
  settle_proper (intent.Store op x va (Err fault)) h = refused_proper fault.code fault.miss va h.2 h.1
  settle_proper (intent.SetControl r word) h = on_proper (effect.Control r word) h
  settle_proper (intent.SetEntry row) h = on_proper (effect.Entry row) h
  settle_proper (intent.SetRow i row) h = on_proper (effect.TlbRow i row.high row.low) h
  settle_proper (intent.Trap code coprocessor) h = trapped_proper code coprocessor h
