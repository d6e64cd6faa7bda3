-- How a run holds the core: as its fourteen words, in the order of the image and of a step's record.
use Rattle.std.specs.Prelude.{ℕ, List, slice_index}
use Rattle.state.specs.declared.machine.Core.{Core}
use Rattle.state.specs.Layout.{core_from}

-- ---- aids to proofs: nothing that a reader must believe

-- `kept_words` of state read back
unfoldable pub core_in : List ℕ → Core
core_in words = core_from 0 12 (λ (k : ℕ). slice_index words k)
