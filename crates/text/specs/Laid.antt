-- Bytes laid into a buffer from a place on, as many as fit.
use Rattle.std.specs.Prelude.{◌≡◌, List, ℕ, ◌+◌, ◌-◌, min, length}
use Rattle.std.proofs.lemmas.List.Edits.{sets}

-- the buffer: a byte whose place lies behind the buffer's end is not stored
abbrev pub laid_of : List ℕ → ℕ → List ℕ → List ℕ
laid_of out at bytes = sets out at bytes

-- the place behind k bytes laid at a place of a buffer of n
abbrev pub behind_of : (n at k : ℕ) → ℕ
behind_of n at k = at + min k (n - at)

pub record Laid (out : List ℕ) (at : ℕ) (bytes after : List ℕ) (next : ℕ) : Type 0 where
  pub buffer : after ≡ laid_of out at bytes
  pub place : next ≡ behind_of (length out) at (length bytes)
