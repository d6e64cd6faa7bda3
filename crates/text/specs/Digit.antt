-- Digits: what a byte is worth as one, how many stand at the head of a list of bytes, and the number that they write.
use Rattle.std.specs.Prelude.{Bool, cond, List, [], ◌∷◌, ℕ, ◌+◌, ◌*◌, ◌-◌, ltb, leb}
use Rattle.text.specs.Head.{head_of}

-- `0` to `9`, `A` to `F`, `a` to `f`; 16 for a byte that is no digit
unfoldable pub digit_of : ℕ → ℕ
digit_of b =
    cond (ltb b 48) 16
    (cond (leb b 57) (b - 48)
    (cond (ltb b 65) 16
    (cond (leb b 70) (b - 65 + 10)
    (cond (ltb b 97) 16
    (cond (leb b 102) (b - 97 + 10) 16)))))

abbrev pub is_digit : ℕ → ℕ → Bool
is_digit base b = ltb (digit_of b) base

abbrev pub run_of : ℕ → List ℕ → ℕ
run_of base s = head_of (is_digit base) s

-- the number that digits write behind others, which are worth v
unfoldable pub value_from : ℕ → ℕ → List ℕ → ℕ
value_from base v [] = v
value_from base v (b ∷ s) = value_from base (v * base + digit_of b) s

abbrev pub value_of : ℕ → List ℕ → ℕ
value_of base s = value_from base 0 s
