-- The four words of a record and what they keep of a disk: each gives the other back.
use Prim.Native.Nat.{ℕ, suc, ◌+◌, ◌*◌, ◌/◌, ◌%◌, ◌^◌, ◌<◌}
use mathlib.Core.Path.{◌≡◌, ap, ◌∙◌}
use mathlib.Core.List.{List, [], ◌∷◌}
use native.Mathlib.Nat.{mod-eq_of_lt}
use native.Mathlib.Omega.{arith}
use lib.ListN.{get_or, set}
use lib.Seq.{sets}
use Rattle.word.specs.Lists.{Below}
use Rattle.word.specs.Little.{from_bytes, to_bytes}
use Rattle.word.proofs.Lists.{below_nil, below_cons}
use Rattle.word.proofs.LittleBytes.{from_to, to_from}
use Rattle.disk.specs.declared.four.Four.{Four}
use Rattle.disk.specs.declared.saved.Kept.{Kept}
use Rattle.disk.specs.Four.{four_at, bytes_of}
use Rattle.disk.specs.Words.{pair_of, four_word, four_from, kept_words, kept_from, Ranged}

pub all_four : (m a b c d : ℕ) → a < m → b < m → c < m → d < m → Below m (a ∷ b ∷ c ∷ d ∷ [])
all_four m a b c d p q r s = below_cons (b ∷ c ∷ d ∷ []) p (below_cons (c ∷ d ∷ []) q (below_cons (d ∷ []) r (below_cons [] s (below_nil m))))

-- ---- two numbers in a word

pair_back : (word : ℕ) → word < 2 ^ 32 → pair_of (word % 65536) (word / 65536) ≡ word
pair_back word h = omega arith

pub low_of : (low high : ℕ) → low < 65536 → pair_of low high % 65536 ≡ low
low_of low high h = omega arith

pub high_of : (low high : ℕ) → high < 65536 → pair_of low high / 65536 ≡ high
high_of low high h = omega arith

-- what has room in its word is told as it is
pub pair_plain : (low high : ℕ) → low < 65536 → high < 65536 → pair_of low high ≡ low + 65536 * high
pair_plain low high l h = omega arith

-- ---- four bytes

four_told : (word : ℕ) → word < 2 ^ 32 → four_word (four_from word) ≡ word
unfolding four_word four_from to_bytes
four_told word h = from_to 4 word ∙ mod-eq_of_lt h

four_back : (f : Four) → Below 256 (bytes_of f) → four_from (four_word f) ≡ f
unfolding four_word four_from
four_back f h = ap (λ (l : List ℕ). four_at l 0) (to_from (bytes_of f) h)

four_small : (f : Four) → Below 256 (bytes_of f) → four_word f < 2 ^ 32
unfolding four_word from_bytes
four_small f h =
    let a : f.a < 256 = h 0 (omega arith) in
    let b : f.b < 256 = h 1 (omega arith) in
    let c : f.c < 256 = h 2 (omega arith) in
    let d : f.d < 256 = h 3 (omega arith) in
    omega arith

-- ---- the four words

-- words of 32 bits, read and laid down again
pub words_back : (first second third fourth : ℕ) → first < 2 ^ 32 → second < 2 ^ 32 → fourth < 2 ^ 32 →
    kept_words (kept_from first second third fourth) ≡ first ∷ second ∷ third ∷ fourth ∷ []
unfolding kept_from
words_back first second third fourth a b d = rw (pair_back first a, pair_back second b, four_told fourth d)

-- what has room, laid down and read again
pub kept_back : (k : Kept) → Ranged k → let words = kept_words k in kept_from (get_or words 0 0) (get_or words 1 0) (get_or words 2 0) (get_or words 3 0) ≡ k
unfolding kept_from
kept_back k r =
    let how : k.how < 65536 = omega (arith, r.how) in
    rw (
      low_of k.how k.cylinder how,
      high_of k.how k.cylinder r.cylinder,
      low_of k.ticks k.words r.ticks,
      high_of k.ticks k.words r.words,
      four_back k.four r.bytes,
    )

-- they are words of 32 bits
pub words_small : (k : Kept) → k.place < 2 ^ 32 → Below 256 (bytes_of k.four) → Below (2 ^ 32) (kept_words k)
words_small k place bytes =
    let first : pair_of k.how k.cylinder < 2 ^ 32 = omega arith in
    let second : pair_of k.ticks k.words < 2 ^ 32 = omega arith in
    all_four (2 ^ 32) (pair_of k.how k.cylinder) (pair_of k.ticks k.words) k.place (four_word k.four) first second place (four_small k.four bytes)

-- four words stored one after the other
pub store_words : (l : List ℕ) (at a b c d : ℕ) → set (set (set (set l at a) (at + 1) b) (at + 2) c) (at + 3) d ≡ sets l at (a ∷ b ∷ c ∷ d ∷ [])
store_words l at a b c d =
    let one : at + 1 ≡ suc at = omega arith in
    let two : at + 2 ≡ suc (suc at) = omega arith in
    let three : at + 3 ≡ suc (suc (suc at)) = omega arith in
    rw (one, two, three)
