-- What a store and a load mean together, over the number n of bytes.
use mathlib.Core.Path.{◌≡◌, sym, ap, ◌∙◌}
use mathlib.Core.List.{List, ◌++◌, append_assoc}
use Prim.Native.Nat.{ℕ, ◌+◌, ◌%◌, ◌^◌, ◌≤◌, ◌<◌}
use native.Mathlib.Omega.{arith}
use lib.ListN.{length, get_or, take, drop, length-append, length-drop, take-append-drop, get_or-append}
use lib.Seq.{length-take-le, take_at, drop_at, get_or-take, get_or-drop, get_or-append-add, drop-drop}
use Rattle.word.specs.Little.{to_bytes}
use Rattle.word.proofs.LittleBytes.{length_to, from_to}
use Rattle.memory.proofs.OneCell.{to_loaded}
use Rattle.memory.specs.Memory.{load_at, stored_at}

module _ (n : ℕ) (m : List ℕ) (at : ℕ) (fits : at + n ≤ length m) where
  before : length (take at m) ≡ at
  before = length-take-le at m (omega arith)

  pub length_stored : (x : ℕ) → length (stored_at n m at x) ≡ length m
  unfolding stored_at
  length_stored x = simp (length-append, before, length_to, length-drop) (omega arith)

  pub load_stored : (x : ℕ) → load_at n (stored_at n m at x) at ≡ x % 256 ^ n
  unfolding load_at stored_at
  load_stored x =
      rw (append_assoc (take at m) (to_bytes n x) (drop (at + n) m), drop_at (take at m) (to_bytes n x ++ drop (at + n) m) at before, take_at (to_bytes n x) (drop (at + n) m) n (length_to n x))
      (from_to n x)

  -- what lies before the place, and what was stored
  head : ℕ → List ℕ
  head x = take at m ++ to_bytes n x

  long : (x : ℕ) → length (head x) ≡ at + n
  unfolding head
  long x = simp (length-append, before, length_to)

  -- every byte below and every byte above is as it was
  pub below : (x j : ℕ) → j < at → get_or (stored_at n m at x) j 0 ≡ get_or m j 0
  unfolding stored_at
  below x j h =
      let b : length (take at m) ≡ at = before in
      rw (append_assoc (take at m) (to_bytes n x) (drop (at + n) m)) (get_or-append (take at m) (to_bytes n x ++ drop (at + n) m) 0 j (omega arith) ∙ get_or-take at m j 0 h)

  pub above : (x k : ℕ) → get_or (stored_at n m at x) (at + n + k) 0 ≡ get_or m (at + n + k) 0
  unfolding stored_at head
  above x k = sym (ap (λ l. get_or (head x ++ drop (at + n) m) (l + k) 0) (long x)) ∙ get_or-append-add (head x) (drop (at + n) m) k 0 ∙ get_or-drop (at + n) m k 0

  -- what was loaded, stored again, changes nothing
  pub stored_loaded : ((i : ℕ) → get_or m i 0 < 256) → stored_at n m at (load_at n m at) ≡ m
  unfolding load_at stored_at
  stored_loaded bytes =
      ap (λ t. take at m ++ t ++ drop (at + n) m) (to_loaded n m at fits (λ i l. bytes i)) ∙ (rw (append_assoc, ← drop-drop n at m, take-append-drop n (drop at m)) (take-append-drop at m))
