-- Numbers as bytes.
use Rattle.std.specs.Prelude.{cond, List, [], ◌∷◌, ◌++◌, ℕ, zero, suc, ◌+◌, ◌-◌, ◌/◌, ◌%◌, ◌^◌, ltb}

-- the face of a digit below 16, in lower case
unfoldable pub face_of : ℕ → ℕ
face_of d = cond (ltb d 10) (48 + d) (87 + d % 16)

-- the n low digits of v
unfoldable pub low_of : (base n v : ℕ) → List ℕ
low_of base zero v = []
low_of base (suc n) v = low_of base n (v / base) ++ face_of (v % base) ∷ []

-- in decimal, with no leading zeros: at most n digits
unfoldable pub decimal_in : (n v : ℕ) → List ℕ
decimal_in zero v = []
decimal_in (suc n) v = cond (ltb v 10) (face_of v ∷ []) (decimal_in n (v / 10) ++ face_of (v % 10) ∷ [])

-- a number of 64 bits has at most 20 digits
abbrev pub decimal_of : ℕ → List ℕ
decimal_of v = decimal_in 20 v

-- in decimal, with a comma before each three digits that follow others: at most n times three
unfoldable pub grouped_in : (n v : ℕ) → List ℕ
grouped_in zero v = []
grouped_in (suc n) v = cond (ltb v 1000) (decimal_of v) (grouped_in n (v / 1000) ++ 44 ∷ low_of 10 3 v)

abbrev pub grouped_of : ℕ → List ℕ
grouped_of v = grouped_in 7 v

-- a word as a signed decimal
abbrev pub signed_of : ℕ → List ℕ
signed_of v = cond (ltb v (2 ^ 31)) (decimal_of v) (45 ∷ decimal_of (2 ^ 32 - v))

-- how many digits are written: 1 to 16
abbrev pub within_of : ℕ → ℕ
within_of digits = cond (ltb digits 1) 1 (cond (ltb 16 digits) 16 digits)

abbrev pub hex_of : (digits v : ℕ) → List ℕ
hex_of digits v = 48 ∷ 120 ∷ low_of 16 (within_of digits) v
