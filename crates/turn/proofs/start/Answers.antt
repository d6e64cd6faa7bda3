-- `turn::start` meets its contract: what the record's beginning and the tick ensure. That the clock has 64 bits is in what owning it tells.
use Prim.Native.Nat.{◌^◌, ◌<◌}
use native.Mathlib.Omega.{arith}
use Rattle.clock.specs.Tick.{time_of}
use Rattle.turn.proofs.Steps.{clock_next}
use Rattle.turn.proofs.start.Goals as goal

pub begin-requires : goal.begin-requires
begin-requires c = record { ready = c.requires.ready; core_len = c.requires.fourteen; told = c.requires.told }

pub ticked-requires : goal.ticked-requires
ticked-requires c = record { paper_len_bound = c.requires.short; told = c.requires.told }

pub returns : goal.returns
returns c =
    let held = c.args.held in
    let small : time_of held.clock < 2 ^ 64 = omega arith in
    record {
      tick_is = c.ticked.ensures;
      journal_after = c.begin.ensures;
      onward = clock_next _ _ held _ _ _ _ _ _ c.ticked.ensures small;
    }
