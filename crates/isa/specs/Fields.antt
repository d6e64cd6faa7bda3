-- The fields of an instruction word, under the book's names.
use Rattle.std.specs.Prelude.{ℕ, ◌/◌, ◌%◌, ◌^◌}

abbrev pub opcode : ℕ → ℕ
opcode w = w / 2 ^ 26

abbrev pub rs : ℕ → ℕ
rs w = w / 2 ^ 21 % 32

abbrev pub rt : ℕ → ℕ
rt w = w / 2 ^ 16 % 32

abbrev pub rd : ℕ → ℕ
rd w = w / 2 ^ 11 % 32

abbrev pub shamt : ℕ → ℕ
shamt w = w / 2 ^ 6 % 32

abbrev pub funct : ℕ → ℕ
funct w = w % 64

abbrev pub immediate : ℕ → ℕ
immediate w = w % 2 ^ 16

abbrev pub target : ℕ → ℕ
target w = w % 2 ^ 26
