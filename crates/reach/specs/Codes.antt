-- ExcCode of the exceptions that an access can raise (the manual's names).
use Rattle.std.specs.Prelude.{true, false, ℕ}
use Rattle.reach.specs.declared.Fault.{Fault}

abbrev pub code_mod : ℕ
code_mod = 1

abbrev pub code_tlbl : ℕ
code_tlbl = 2

abbrev pub code_tlbs : ℕ
code_tlbs = 3

abbrev pub code_adel : ℕ
code_adel = 4

abbrev pub code_ades : ℕ
code_ades = 5

abbrev pub code_ibe : ℕ
code_ibe = 6

abbrev pub code_dbe : ℕ
code_dbe = 7

-- an exception, and one where no entry of the table matches
abbrev pub raises : ℕ → Fault
raises code = record { miss = false; code = code }

abbrev pub misses : ℕ → Fault
misses code = record { miss = true; code = code }
