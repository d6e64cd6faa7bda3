-- IP[6] shows exactly whether a printer is pending, and no other bit of Cause moves.
use Prim.Native.Nat.{ℕ}
use mathlib.Core.Path.{◌≡◌}
use mathlib.Core.Logic.{◌≢◌}
use mathlib.Core.Bool.{not}
use lib.Dec.{eqb}
use Rattle.word.specs.Map.{bit}
use Rattle.word.proofs.Maps.{bit_told, bit_other}
use Rattle.printer.specs.Cause.{shown_of}

pub shows_pending : (pending cause : ℕ) → bit 14 (shown_of pending cause) ≡ not (eqb pending 0)
shows_pending pending cause = bit_told 14 (not (eqb pending 0)) cause

pub others_stay : (pending cause k : ℕ) → k ≢ 14 → bit k (shown_of pending cause) ≡ bit k cause
others_stay pending cause k other = bit_other 14 k (not (eqb pending 0)) cause other
