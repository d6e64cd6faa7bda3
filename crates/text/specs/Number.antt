-- The number at a place of a line.
use Rattle.std.specs.Prelude.{Bool, cond, ◌&&◌, ◌||◌, Option, Some, None, Result, Ok, Err, List, ℕ, ◌+◌, ◌^◌, eqb, ltb, get_or, take, drop}
use Rattle.text.specs.Digit.{run_of, value_of}
use Rattle.text.specs.declared.found.Number.{Number}
use Rattle.text.specs.declared.found.NoNumber.{NoNumber}
use Rattle.text.specs.declared.found.NoNumber.TheVariants.{TooLarge, Nothing}

-- a value, where 64 bits hold it
abbrev pub held_of : ℕ → Option ℕ
held_of v = cond (ltb v (2 ^ 64)) (Some v) None

-- a number that is read up to `next`
abbrev pub read_of : (v next : ℕ) → Result Number NoNumber
read_of v next = Ok (record { value = v; to = next })

abbrev pub answer_of : Option ℕ → (first next : ℕ) → Result Number NoNumber
answer_of (Some v) first next = read_of v next
answer_of None first next = Err (TooLarge first)

-- n digits at `from`, of a number that begins at `first`
unfoldable pub digits_of : (first from base n : ℕ) → List ℕ → Result Number NoNumber
digits_of first from base n s = cond (eqb n 0) (Err (Nothing from)) (answer_of (held_of (value_of base (take n s))) first (from + n))

unfoldable pub digits_at : (first from base : ℕ) → List ℕ → Result Number NoNumber
digits_at first from base line = digits_of first from base (run_of base (drop from line)) (drop from line)

-- `0x` or `0X`
unfoldable pub is_hex : List ℕ → ℕ → Bool
is_hex line from = eqb (get_or line from 0) 48 && (eqb (get_or line (from + 1) 0) 120 || eqb (get_or line (from + 1) 0) 88)

abbrev pub decimal_at : List ℕ → ℕ → Result Number NoNumber
decimal_at line from = digits_at from from 10 line

unfoldable pub number_of : List ℕ → ℕ → Result Number NoNumber
number_of line from = cond (is_hex line from) (digits_at from (from + 2) 16 line) (decimal_at line from)
