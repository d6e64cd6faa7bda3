-- Little-endian memory, over the number n of bytes: 1, 2 and 4 are its cases.
use Rattle.std.specs.Prelude.{List, ◌++◌, ℕ, ◌+◌, take, drop}
use Rattle.word.specs.Little.{from_bytes, to_bytes}

unfoldable pub load_at : ℕ → List ℕ → ℕ → ℕ
load_at n m at = from_bytes (take n (drop at m))

unfoldable pub stored_at : ℕ → List ℕ → ℕ → ℕ → List ℕ
stored_at n m at x = take at m ++ to_bytes n x ++ drop (at + n) m
