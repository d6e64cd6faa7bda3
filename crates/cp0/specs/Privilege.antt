-- Status: KUc is bit 1, on in user mode; VMc is bit 24.
use Rattle.std.specs.Prelude.{ℕ, Bool, not, ◌||◌}
use Rattle.word.specs.Map.{bit}
use Rattle.cp0.specs.declared.privilege.Mode.{Mode}

abbrev pub mode_of : ℕ → Mode
mode_of status = record { user = bit 1 status; vm = bit 24 status }

-- Document 01, "CP0": "needs kernel mode or CU[0]". CU[0] is bit 28.
abbrev pub usable_of : ℕ → Bool
usable_of status = not (bit 1 status) || bit 28 status
