-- The payload that the bytes between `$` and `#` stand for, read byte by byte: `}` and b stand for b xor 0x20, and `*` and n, from a space to `~`,
-- for the byte before, n - 29 further times.
use Rattle.std.specs.Prelude.{cond, ◌&&◌, List, [], ◌∷◌, ◌++◌, ℕ, ◌+◌, ◌-◌, eqb, ltb, leb, length, get_or, replicate}
use Rattle.std.specs.Int.Bits.{bit_xor}

-- the payload so far, and whether the byte before was a `}` or a `*`
pub data Reading : Type 0 where
  plain : List ℕ → Reading
  escape : List ℕ → Reading
  run : List ℕ → Reading
  broken : Reading

-- a payload that the room does not hold is none
unfoldable pub added_of : (room : ℕ) (done more : List ℕ) → Reading
added_of room done more = cond (leb (length done + length more) room) (plain (done ++ more)) broken

abbrev pub last_of : List ℕ → ℕ
last_of done = get_or done (length done - 1) 0

unfoldable pub plain_of : (room : ℕ) (done : List ℕ) (b : ℕ) → Reading
plain_of room done b = cond (eqb b 125) (escape done) (cond (eqb b 42) (run done) (added_of room done (b ∷ [])))

-- before a run there is a byte
unfoldable pub run_of : (room : ℕ) (done : List ℕ) (n : ℕ) → Reading
run_of room done n =
    cond (ltb 0 (length done) && (leb 32 n && leb n 126)) (added_of room done (replicate (n - 29) (last_of done))) broken

abbrev pub step_of : (room : ℕ) → Reading → ℕ → Reading
step_of room (plain done) b = plain_of room done b
step_of room (escape done) b = added_of room done (bit_xor b 32 ∷ [])
step_of room (run done) b = run_of room done b
step_of room broken b = broken

unfoldable pub steps_of : (room : ℕ) → Reading → List ℕ → Reading
steps_of room r [] = r
steps_of room r (b ∷ s) = steps_of room (step_of room r b) s

abbrev pub read_of : (room : ℕ) → List ℕ → Reading
read_of room s = steps_of room (plain []) s
