-- IP[3] is on exactly if the disks' pending map is not 0.
use Rattle.std.specs.Prelude.{ℕ, not, eqb}
use Rattle.cp0.specs.Interrupt.{with_line}

abbrev pub shown_of : ℕ → ℕ → ℕ
shown_of pending cause = with_line 3 (not (eqb pending 0)) cause
