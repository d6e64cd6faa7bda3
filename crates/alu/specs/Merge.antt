-- LWL, LWR, SWL and SWR by their bytes. p is the address modulo 4; a word's bytes stand from the lowest address on, so from the lowest up.
use Rattle.std.specs.Prelude.{ℕ, ◌+◌, ◌-◌, List, ◌++◌, take, drop}
use Rattle.word.specs.Little.{from_bytes, to_bytes}

abbrev bytes : ℕ → List ℕ
bytes x = to_bytes 4 x

-- the word's bytes up to the address go to the register's top
abbrev pub lwl_of : ℕ → ℕ → ℕ → ℕ
lwl_of register word p = from_bytes (take (3 - p) (bytes register) ++ take (p + 1) (bytes word))

-- the word's bytes from the address on go to the register's bottom
abbrev pub lwr_of : ℕ → ℕ → ℕ → ℕ
lwr_of register word p = from_bytes (drop p (bytes word) ++ drop (4 - p) (bytes register))

-- the register's top goes to the word's bytes up to the address
abbrev pub swl_of : ℕ → ℕ → ℕ → ℕ
swl_of register word p = from_bytes (drop (3 - p) (bytes register) ++ drop (p + 1) (bytes word))

-- the register's bottom goes to the word's bytes from the address on
abbrev pub swr_of : ℕ → ℕ → ℕ → ℕ
swr_of register word p = from_bytes (take p (bytes word) ++ take (4 - p) (bytes register))
