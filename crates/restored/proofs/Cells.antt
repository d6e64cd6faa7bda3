-- A word of RAM that was overwritten is given back by the bytes of the word that stood there.
use Prim.Native.Nat.{ℕ, ◌+◌, ◌≤◌}
use mathlib.Core.Path.{◌≡◌, sym, ◌∙◌}
use mathlib.Core.List.{List, ◌++◌, append_assoc}
use native.Mathlib.Omega.{arith}
use lib.ListN.{length, take, drop, length-append}
use lib.Seq.{sets, length-take-le, take_at, drop_at}
use Rattle.word.specs.Lists.{Below}
use Rattle.word.specs.Little.{to_bytes}
use Rattle.word.proofs.LittleBytes.{length_to}
use Rattle.memory.specs.Memory.{load_at, stored_at}
use Rattle.memory.proofs.Cells.{stored_sets}
use Rattle.memory.proofs.Laws.{length_stored, stored_loaded}
use Rattle.good.proofs.Belows.{below_any}

module _ (n : ℕ) (m : List ℕ) (at : ℕ) (fits : at + n ≤ length m) where
  before : length (take at m) ≡ at
  before = length-take-le at m (omega arith)

  long : (x : ℕ) → length (take at m ++ to_bytes n x) ≡ at + n
  long x = simp (length-append, before, length_to)

  front : (x : ℕ) → take at (stored_at n m at x) ≡ take at m
  unfolding stored_at
  front x = rw (append_assoc (take at m) (to_bytes n x) (drop (at + n) m)) (take_at (take at m) (to_bytes n x ++ drop (at + n) m) at before)

  rest : (x : ℕ) → drop (at + n) (stored_at n m at x) ≡ drop (at + n) m
  unfolding stored_at
  rest x = drop_at (take at m ++ to_bytes n x) (drop (at + n) m) (at + n) (long x)

  -- a store over a store
  pub stored_over : (x y : ℕ) → stored_at n (stored_at n m at x) at y ≡ stored_at n m at y
  unfolding stored_at
  stored_over x y = λ i. front x i ++ to_bytes n y ++ rest x i

  pub stored_back : (x : ℕ) → Below 256 m → sets (stored_at n m at x) at (to_bytes n (load_at n m at)) ≡ m
  stored_back x bytes =
      let old = load_at n m at in
      sym (stored_sets n (stored_at n m at x) at old (rw (length_stored n m at fits x) fits))
      ∙ stored_over x old
      ∙ stored_loaded n m at fits (below_any m bytes (omega arith))
