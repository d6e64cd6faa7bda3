-- What is loaded from bytes is a word, and so is what a store makes of the word around its place.
use Prim.Native.Nat.{ℕ, ◌+◌, ◌-◌, ◌*◌, ◌/◌, ◌%◌, ◌^◌, ◌≤◌, ◌<◌}
use mathlib.Core.List.{List, ◌++◌}
use native.Mathlib.Nat.{pow-le-pow_right, lt_of_lt_of_le, min-le_left, min-le_right}
use native.Mathlib.Omega.{arith}
use lib.ListN.{length, take, drop, length-append, length-take, length-drop}
use lib.Seq.{get_or-take, get_or-drop}
use Rattle.word.specs.Lists.{Below}
use Rattle.word.specs.Little.{from_bytes, to_bytes}
use Rattle.word.specs.Number.{signed}
use Rattle.word.proofs.Lists.{below_append}
use Rattle.word.proofs.LittleBytes.{length_to}
use Rattle.memory.specs.Memory.{load_at, stored_at}
use Rattle.memory.proofs.Laws.{length_stored}
use Rattle.memory.proofs.OneCell.{to_below}
use Rattle.isa.specs.declared.instr.LoadOp.{LoadOp}
use Rattle.isa.specs.declared.instr.LoadOp.TheVariants.{Lb, Lh, Lwl, Lw, Lbu, Lhu, Lwr}
use Rattle.isa.specs.declared.instr.StoreOp.{StoreOp}
use Rattle.isa.specs.declared.instr.StoreOp.TheVariants.{Sb, Sh, Swl, Sw, Swr}
use Rattle.board.specs.declared.places.Place.{Place}
use Rattle.board.specs.declared.places.Place.TheVariants.{Ram, Execution, Bootstrap, Device}
use Rattle.decide.specs.Lent.{Lent, word_in}
use Rattle.decide.specs.Part.{from_place, load_part, with_bytes, store_part}
use Rattle.proper.proofs.Words.{bits_small, from_small}

below_take : (j : ℕ) (l : List ℕ) → Below 256 l → Below 256 (take j l)
below_take j l small i within =
    let long = length-take j l in
    let short = min-le_left j (length l) in
    let inside = min-le_right j (length l) in
    rw (get_or-take j l i 0 (omega arith)) (small i (omega arith))

below_drop : (j : ℕ) (l : List ℕ) → Below 256 l → Below 256 (drop j l)
below_drop j l small i within =
    let long = length-drop j l in
    rw get_or-drop (small (j + i) (omega arith))

-- at most four bytes say a word
few_word : (bs : List ℕ) → length bs ≤ 4 → Below 256 bs → from_bytes bs < 2 ^ 32
few_word bs short small = lt_of_lt_of_le (from_small bs small) (pow-le-pow_right {n = 256} (omega arith) short)

joined_word : (k l : List ℕ) → length k + length l ≤ 4 → Below 256 k → Below 256 l → from_bytes (k ++ l) < 2 ^ 32
joined_word k l short hk hl = let long = length-append k l in few_word (k ++ l) (omega arith) (below_append k l hk hl)

load_word : (m : List ℕ) (at : ℕ) → Below 256 m → load_at 4 m at < 2 ^ 32
unfolding load_at
load_word m at small =
    let long = length-take 4 (drop at m) in
    let short = min-le_left 4 (length (drop at m)) in
    few_word (take 4 (drop at m)) (omega arith) (below_take 4 (drop at m) (below_drop at m small))

pub record Bytes (lent : Lent) : Type 0 where
  pub execution : Below 256 lent.execution
  pub bootstrap : Below 256 lent.bootstrap
  pub ram : Below 256 lent.ram

pub word_in_small : (lent : Lent) → Bytes lent → (place : Place) → word_in lent place < 2 ^ 32
word_in_small lent bytes (Ram at) = load_word lent.ram (at / 4 * 4) bytes.ram
word_in_small lent bytes (Execution at) = load_word lent.execution (at / 4 * 4) bytes.execution
word_in_small lent bytes (Bootstrap at) = load_word lent.bootstrap (at / 4 * 4) bytes.bootstrap
word_in_small lent bytes (Device at) = omega arith

-- the bytes of two words, as LWL, LWR, SWL and SWR put them together
module _ (x y : ℕ) where
  taken_word : (a b : ℕ) → a + b ≤ 4 → from_bytes (take a (to_bytes 4 x) ++ take b (to_bytes 4 y)) < 2 ^ 32
  taken_word a b few =
      let la = length-take a (to_bytes 4 x) in
      let lb = length-take b (to_bytes 4 y) in
      let sa = min-le_left a (length (to_bytes 4 x)) in
      let sb = min-le_left b (length (to_bytes 4 y)) in
      joined_word (take a (to_bytes 4 x)) (take b (to_bytes 4 y)) (omega arith) (below_take a (to_bytes 4 x) (to_below 4 x)) (below_take b (to_bytes 4 y) (to_below 4 y))

  dropped_word : (a b : ℕ) → 4 ≤ a + b → a ≤ 4 → b ≤ 4 → from_bytes (drop a (to_bytes 4 x) ++ drop b (to_bytes 4 y)) < 2 ^ 32
  dropped_word a b many ha hb =
      let la = length-drop a (to_bytes 4 x) in
      let lb = length-drop b (to_bytes 4 y) in
      let lx = length_to 4 x in
      let ly = length_to 4 y in
      joined_word (drop a (to_bytes 4 x)) (drop b (to_bytes 4 y)) (omega arith) (below_drop a (to_bytes 4 x) (to_below 4 x)) (below_drop b (to_bytes 4 y) (to_below 4 y))

pub load_part_word : (op : LoadOp) (old word at : ℕ) → word < 2 ^ 32 → load_part op old word at < 2 ^ 32
load_part_word Lb old word at h = bits_small 32 (signed 8 (from_place word at % 2 ^ 8))
load_part_word Lh old word at h = bits_small 32 (signed 16 (from_place word at % 2 ^ 16))
load_part_word Lwl old word at h = taken_word old word (3 - at % 4) (at % 4 + 1) (omega arith)
load_part_word Lw old word at h = h
load_part_word Lbu old word at h = omega arith
load_part_word Lhu old word at h = omega arith
load_part_word Lwr old word at h = dropped_word word old (at % 4) (4 - at % 4) (omega arith) (omega arith) (omega arith)

stored_below : (n : ℕ) (m : List ℕ) (at x : ℕ) → Below 256 m → Below 256 (stored_at n m at x)
unfolding stored_at
stored_below n m at x small =
    below_append (take at m ++ to_bytes n x) (drop (at + n) m) (below_append (take at m) (to_bytes n x) (below_take at m small) (to_below n x)) (below_drop (at + n) m small)

-- n bytes at a multiple of n, within the word
with_bytes_word : (n word at x : ℕ) → at % 4 / n * n + n ≤ 4 → with_bytes n word at x < 2 ^ 32
unfolding with_bytes
with_bytes_word n word at x inside =
    let place = at % 4 / n * n in
    let four = length_to 4 word in
    let long = length_stored n (to_bytes 4 word) place (omega arith) x in
    few_word (stored_at n (to_bytes 4 word) place x) (omega arith) (stored_below n (to_bytes 4 word) place x (to_below 4 word))

pub store_part_word : (op : StoreOp) (x word at : ℕ) → x < 2 ^ 32 → store_part op x word at < 2 ^ 32
store_part_word Sb x word at h = with_bytes_word 1 word at x (omega arith)
store_part_word Sh x word at h = with_bytes_word 2 word at x (omega arith)
store_part_word Swl x word at h = dropped_word x word (3 - at % 4) (at % 4 + 1) (omega arith) (omega arith) (omega arith)
store_part_word Sw x word at h = h
store_part_word Swr x word at h = taken_word word x (at % 4) (4 - at % 4) (omega arith)
