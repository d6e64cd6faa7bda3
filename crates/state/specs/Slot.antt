-- Document 02, L2: "A slot is the step after any executed branch or jump, taken or not." The core keeps whether the next step is one, and then "the branch's address (0 if the
-- flag is 0)".
use Rattle.std.specs.Prelude.{ℕ, Bool, cond, eqb}
use Rattle.state.specs.declared.machine.Core.{Core}

abbrev pub in_slot : Core → Bool
in_slot c = eqb c.slot 1

-- what EPC takes: "In a branch's delay slot .. the address of the branch"
abbrev pub return_of : Core → ℕ
return_of c = cond (in_slot c) c.branch c.pc

-- the core after a step that executed a branch or jump, or did not
abbrev pub slot_after : Bool → Core → Core
slot_after branched c =
    record {
      hi = c.hi;
      lo = c.lo;
      pc = c.pc;
      next_pc = c.next_pc;
      cp0 = c.cp0;
      slot = cond branched 1 0;
      branch = cond branched c.pc 0;
    }
