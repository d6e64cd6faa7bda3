-- What the exports for tests answer.
use Rattle.std.specs.Prelude.{ℕ, Bool, cond, ◌&&◌, List, ◌≡◌, eqb, length}

-- ---- aids to proofs: nothing that a reader must believe

abbrev pub flag : Bool → ℕ
flag b = cond b 1 0

-- a window's length, and its four bytes in a buffer of four
pub record CopiedIs (window out : List ℕ) (answer : ℕ) (after : List ℕ) : Type 0 where
  pub answer_is : answer ≡ length window
  pub out_is : after ≡ cond (eqb (length window) 4 && eqb (length out) 4) window out
