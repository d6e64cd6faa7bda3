-- Laws of words as bytes: each way undoes the other.
use Prim.{tt}
use Prim.Native.Nat.{ℕ, zero, suc, ◌+◌, ◌*◌, ◌/◌, ◌%◌, ◌^◌, ◌≤◌, ◌<◌}
use mathlib.Core.Path.{◌≡◌, refl, ap}
use mathlib.Core.List.{List, [], ◌∷◌, ◌++◌}
use native.Mathlib.Omega.{arith}
use lib.ListN.{length, get_or, take, drop, get_or-eq_default}
use lib.Seq.{drop-cons, take-add}
use lib.Dec.{lit<}
use native.Mathlib.Decide.{dec_lt}
use native.Mathlib.Nat.{add-zero}
use Rattle.word.proofs.Lists.{flat_at, flat_append}
use Rattle.word.specs.Lists.{tabulate, flat, Below}
use Rattle.word.specs.Big.{word_bytes, word_of, word_at}

-- one byte at a place, and the rest
next : (bs : List ℕ) (at n : ℕ) → n ≡ suc at → at < length bs → drop at bs ≡ get_or bs at 0 ∷ drop n bs
next bs at n e h = rw e (drop-cons bs at 0 h)

-- the four bytes at a place, and the rest
four : (bs : List ℕ) (at : ℕ) → at + 4 ≤ length bs →
    drop at bs ≡ get_or bs at 0 ∷ get_or bs (at + 1) 0 ∷ get_or bs (at + 2) 0 ∷ get_or bs (at + 3) 0 ∷ drop (at + 4) bs
four bs at h =
    let e₀ = next bs at (at + 1) (omega arith) (omega arith) in
    let e₁ = next bs (at + 1) (at + 2) (omega arith) (omega arith) in
    let e₂ = next bs (at + 2) (at + 3) (omega arith) (omega arith) in
    let e₃ = next bs (at + 3) (at + 4) (omega arith) (omega arith) in
    cc

-- the bytes of the word of four bytes
pub bytes_of_word : (a b c d : ℕ) → a < 256 → b < 256 → c < 256 → d < 256 → word_bytes (word_of a b c d) ≡ a ∷ b ∷ c ∷ d ∷ []
bytes_of_word a b c d ha hb hc hd =
    let ea : word_of a b c d / 0x1000000 ≡ a = omega arith in
    let eb : word_of a b c d / 0x10000 % 256 ≡ b = omega arith in
    let ec : word_of a b c d / 256 % 256 ≡ c = omega arith in
    let ed : word_of a b c d % 256 ≡ d = omega arith in
    rw (ea, eb, ec, ed)

-- Reading a word that was written.
pub read_written : (ws : List ℕ) (i : ℕ) → i < length ws → get_or ws i 0 < 2 ^ 32 → word_at (flat word_bytes ws) (4 * i) ≡ get_or ws i 0
unfolding word_at
read_written ws i hi h =
    let w = get_or ws i 0 in
    let e : word_of (w / 0x1000000) (w / 0x10000 % 256) (w / 256 % 256) (w % 256) ≡ w = omega arith in
    let part = flat_at 4 word_bytes (λ x. refl) ws 0 i in
    let first : get_or (flat word_bytes ws) (4 * i) 0 ≡ w / 0x1000000 = rw (add-zero (4 * i)) at (part 0 hi (lit< tt)) in
    rw (first, part 1 hi (lit< tt), part 2 hi (lit< tt), part 3 hi (lit< tt)) e

-- Writing the words that were read.
pub write_read : (n : ℕ) (bs : List ℕ) → 4 * n ≤ length bs → Below 256 bs →
    flat word_bytes (tabulate n (λ (i : ℕ). word_at bs (4 * i))) ≡ take (4 * n) bs
unfolding word_at
write_read zero bs h small = refl
write_read (suc n) bs h small =
    let more : 4 * suc n ≡ 4 * n + 4 = omega arith in
    rw (
      flat_append word_bytes (tabulate n (λ (i : ℕ). word_at bs (4 * i))) (word_at bs (4 * n) ∷ []),
      write_read n bs (omega arith) small,
      more,
      take-add (4 * n) 4 bs,
      four bs (4 * n) (omega arith),
    )
    (ap (λ (l : List ℕ). take (4 * n) bs ++ l)
    (bytes_of_word _ _ _ _ (small (4 * n) (omega arith)) (small (4 * n + 1) (omega arith)) (small (4 * n + 2) (omega arith)) (small (4 * n + 3) (omega arith))))

-- a list of bytes has a byte at every place, 0 past its end
byte_at : (bs : List ℕ) → Below 256 bs → (i : ℕ) → get_or bs i 0 < 256
byte_at bs small i =
    elim (dec_lt i (length bs)) [
      | yes h ↦ small i h
      | no h ↦ let past : length bs ≤ i = omega arith in rw (get_or-eq_default bs 0 past) (lit< tt)
    ]

-- A word that is read is a word.
pub word_small : (bs : List ℕ) (at : ℕ) → Below 256 bs → word_at bs at < 2 ^ 32
unfolding word_at
word_small bs at small =
    let byte = byte_at bs small in
    omega (arith, byte at, byte (at + 1), byte (at + 2), byte (at + 3))
