-- A line turned on or off: IP[line] is as told, and no other bit of Cause moves.
use Prim.Native.Nat.{ℕ, ◌+◌}
use mathlib.Core.Path.{◌≡◌}
use mathlib.Core.Logic.{◌≢◌}
use mathlib.Core.Bool.{Bool}
use Rattle.word.specs.Map.{bit}
use Rattle.word.proofs.Maps.{bit_told, bit_other}
use Rattle.cp0.specs.Interrupt.{with_line}

module _ (line : ℕ) (on : Bool) (cause : ℕ) where
  pub line_told : bit (8 + line) (with_line line on cause) ≡ on
  line_told = bit_told (8 + line) on cause

  pub line_other : (k : ℕ) → k ≢ 8 + line → bit k (with_line line on cause) ≡ bit k cause
  line_other k apart = bit_other (8 + line) k on cause apart
