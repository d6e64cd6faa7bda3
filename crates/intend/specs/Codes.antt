-- ExcCode of the exceptions that no access raises (the manual's names).
use Rattle.std.specs.Prelude.{ℕ}

abbrev pub code_int : ℕ
code_int = 0

abbrev pub code_sys : ℕ
code_sys = 8

abbrev pub code_bp : ℕ
code_bp = 9

abbrev pub code_ri : ℕ
code_ri = 10

abbrev pub code_cpu : ℕ
code_cpu = 11

abbrev pub code_ov : ℕ
code_ov = 12
