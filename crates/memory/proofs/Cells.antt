-- A list of numbers as cells of n bytes, one after the other: reading undoes writing, and writing undoes reading. Once, over n.
use mathlib.Core.Path.{◌≡◌, sym, ap, ◌∙◌}
use mathlib.Core.List.{List, [], ◌∷◌, ◌++◌, append-nil}
use Prim.Native.Nat.{ℕ, zero, suc, ◌+◌, ◌*◌, ◌^◌, ◌≤◌, ◌<◌}
use native.Mathlib.Nat.{mod-eq_of_lt, mul-zero, mul-suc, add_comm}
use native.Mathlib.Omega.{arith}
use lib.ListN.{length, get_or, take, drop}
use lib.Seq.{sets, sets-eq, take-add, take_at, drop-append-add}
use Rattle.word.specs.Lists.{tabulate, flat, Below}
use Rattle.word.specs.Little.{from_bytes, to_bytes}
use Rattle.word.proofs.Lists.{flat_append, below_nil, below_append}
use Rattle.word.proofs.LittleBytes.{length_to, from_to}
use Rattle.memory.proofs.OneCell.{to_below, to_loaded}
use Rattle.memory.specs.Memory.{load_at, stored_at}

-- a store as stores of single bytes, which is how a list of them is told
pub stored_sets : (n : ℕ) (m : List ℕ) (at x : ℕ) → at + n ≤ length m → stored_at n m at x ≡ sets m at (to_bytes n x)
unfolding stored_at
stored_sets n m at x h =
    let long = length_to n x in
    sym (sets-eq (to_bytes n x) m at (omega arith) ∙ rw long)

pub cells_small : (n : ℕ) (ws : List ℕ) → Below 256 (flat (to_bytes n) ws)
cells_small n [] = below_nil 256
cells_small n (w ∷ ws) = below_append (to_bytes n w) (flat (to_bytes n) ws) (to_below n w) (cells_small n ws)

-- the bytes of cell i
cell : (n : ℕ) (ws : List ℕ) (i : ℕ) → i < length ws → take n (drop (n * i) (flat (to_bytes n) ws)) ≡ to_bytes n (get_or ws i 0)
cell n [] i h = absurd (omega arith)
cell n (w ∷ ws) zero h = rw (mul-zero n) (take_at (to_bytes n w) (flat (to_bytes n) ws) n (length_to n w))
cell n (w ∷ ws) (suc i) h =
    let past : n * suc i ≡ length (to_bytes n w) + n * i = mul-suc n i ∙ add_comm (n * i) n ∙ ap (λ k. k + n * i) (sym (length_to n w)) in
    ap (λ k. take n (drop k (to_bytes n w ++ flat (to_bytes n) ws))) past
    ∙ ap (take n) (drop-append-add (to_bytes n w) (flat (to_bytes n) ws) (n * i)) ∙ cell n ws i (omega arith)

-- Reading a number that was written.
pub read_written : (n : ℕ) (ws : List ℕ) (i : ℕ) → i < length ws → get_or ws i 0 < 256 ^ n → load_at n (flat (to_bytes n) ws) (n * i) ≡ get_or ws i 0
unfolding load_at
read_written n ws i h small = ap from_bytes (cell n ws i h) ∙ from_to n (get_or ws i 0) ∙ mod-eq_of_lt small

-- Writing the numbers that were read.
pub write_read : (n k : ℕ) (bs : List ℕ) → n * k ≤ length bs → Below 256 bs →
    flat (to_bytes n) (tabulate k (λ (i : ℕ). load_at n bs (n * i))) ≡ take (n * k) bs
write_read n zero bs h small = rw (mul-zero n)
write_read n (suc k) bs h small =
    let more = mul-suc n k in
    rw (
      flat_append (to_bytes n) (tabulate k (λ (i : ℕ). load_at n bs (n * i))) (load_at n bs (n * k) ∷ []),
      write_read n k bs (omega arith) small,
      more,
      take-add (n * k) n bs,
      append-nil (to_bytes n (load_at n bs (n * k))),
      to_loaded n bs (n * k) (omega arith) small,
    )
