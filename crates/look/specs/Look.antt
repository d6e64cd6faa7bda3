-- Whether a run goes on, before a step: `limit` is the step before which there is something to look at, `halts` whether the next step meets two matches.
use Rattle.std.specs.Prelude.{ℕ, ◌+◌, Bool, true, false, cond, ◌==◌}
use Rattle.look.specs.declared.Stop.TheVariants.{Budget, TwoMatches}
use Rattle.look.specs.declared.Look.{Look}

-- ---- aids to proofs: nothing that a reader must believe

abbrev pub look_of : ℕ → ℕ → ℕ → Bool → Look
look_of steps limit budget halts =
    cond (steps == limit)
    (cond (steps == budget) (record { ends = true; why = Budget; limit = limit })
    (cond halts (record { ends = true; why = TwoMatches; limit = limit }) (record { ends = false; why = Budget; limit = steps + 1 })))
    (record { ends = false; why = Budget; limit = limit })
