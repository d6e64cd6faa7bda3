-- A part of a cell: n bytes, a places into a cell of k bytes. Reading it is taking it out of the cell's number, and writing it is writing the
-- cell whole with these bytes changed. Once, over k and n.
use mathlib.Core.Path.{◌≡◌, sym, ap, ◌∙◌}
use mathlib.Core.List.{List, ◌++◌, append_assoc}
use Prim.Native.Nat.{ℕ, ◌+◌, ◌-◌, ◌/◌, ◌%◌, ◌^◌, ◌≤◌, ◌<◌}
use native.Mathlib.Nat.{zero-add, one-le-pow, mod-eq_of_lt, div-eq_of_lt, add-mul-div_left, add-mul-mod_self_left}
use native.Mathlib.Omega.{arith}
use lib.ListN.{length, get_or, take, drop, length-drop, take-append-drop}
use lib.Seq.{length-take-le, take-take, take-add, drop-drop, drop-append-le, get_or-take, get_or-drop}
use Rattle.word.specs.Lists.{Below}
use Rattle.word.specs.Little.{from_bytes, to_bytes}
use Rattle.word.proofs.Lists.{below_append}
use Rattle.word.proofs.LittleBytes.{to_from}
use Rattle.memory.specs.Memory.{load_at, stored_at}
use Rattle.memory.proofs.OneCell.{cell, cell_long, cell_below, to_loaded, load_small, to_below}
use Rattle.memory.proofs.Split.{load_split}
use Rattle.memory.proofs.Laws.{length_stored}

abbrev Bytes : List ℕ → Type 0
Bytes m = (i : ℕ) → get_or m i 0 < 256

-- what is a byte everywhere is a byte within the length
below : (m : List ℕ) → Bytes m → Below 256 m
below m bytes i l = bytes i

below_take : (j : ℕ) (l : List ℕ) → j ≤ length l → Below 256 l → Below 256 (take j l)
below_take j l h small i within =
    let e : length (take j l) ≡ j = length-take-le j l h in
    rw (get_or-take j l i 0 (omega arith)) (small i (omega arith))

below_drop : (j : ℕ) (l : List ℕ) → Below 256 l → Below 256 (drop j l)
below_drop j l small i within =
    let e : length (drop j l) ≡ length l - j = length-drop j l in
    rw get_or-drop (small (j + i) (omega arith))

regroup : (p q r s u : List ℕ) → p ++ (q ++ r ++ s) ++ u ≡ p ++ q ++ r ++ (s ++ u)
regroup p q r s u = simp append_assoc

module _ (k n a : ℕ) (inside : a + n ≤ k) (m : List ℕ) (base : ℕ) (fits : base + k ≤ length m) (bytes : Bytes m) where
  -- what lies behind the part
  abbrev rest : ℕ
  rest = k - (a + n)

  from_part : load_at k m base / 256 ^ a ≡ load_at (n + rest) m (base + a)
  from_part =
      let all : k ≡ a + (n + rest) = omega arith in
      let low : load_at a m base < 256 ^ a = load_small a m base (omega arith) (below m bytes) in
      ap (λ j. load_at j m base / 256 ^ a) all
      ∙ ap (λ j. j / 256 ^ a) (load_split m base a (n + rest) (omega arith))
      ∙ add-mul-div_left (load_at a m base) (load_at (n + rest) m (base + a)) (one-le-pow a 256 (omega arith))
      ∙ rw (div-eq_of_lt low) (zero-add _)

  pub load_part_lem : load_at n m (base + a) ≡ load_at k m base / 256 ^ a % 256 ^ n
  load_part_lem =
      let small : load_at n m (base + a) < 256 ^ n = load_small n m (base + a) (omega arith) (below m bytes) in
      sym
      (ap (λ j. j % 256 ^ n) (from_part ∙ load_split m (base + a) n rest (omega arith))
      ∙ add-mul-mod_self_left (load_at n m (base + a)) (256 ^ n) (load_at rest m (base + a + n))
      ∙ mod-eq_of_lt small)

  -- the cell with the part changed
  abbrev changed : ℕ → List ℕ
  changed x = stored_at n (cell k m base fits (below m bytes)) a x

  long : (x : ℕ) → length (changed x) ≡ k
  long x =
      let e : length (cell k m base fits (below m bytes)) ≡ k = cell_long k m base fits (below m bytes) in
      length_stored n (cell k m base fits (below m bytes)) a (omega arith) x ∙ e

  small : (x : ℕ) → Below 256 (changed x)
  unfolding stored_at
  small x =
      let c = cell k m base fits (below m bytes) in
      let e : length c ≡ k = cell_long k m base fits (below m bytes) in
      let b = cell_below k m base fits (below m bytes) in
      below_append (take a c ++ to_bytes n x) (drop (a + n) c) (below_append (take a c) (to_bytes n x) (below_take a c (omega arith) b) (to_below n x)) (below_drop (a + n) c b)

  front : take base m ++ take a (take k (drop base m)) ≡ take (base + a) m
  front = let l : a ≤ k = omega arith in rw (take-take a k (drop base m) l) (sym (take-add base a m))

  back : drop (a + n) (take k (drop base m)) ++ drop (base + k) m ≡ drop (base + a + n) m
  back =
      let e : length (take k (drop base m)) ≡ k = cell_long k m base fits (below m bytes) in
      let i : a + n ≤ length (take k (drop base m)) = omega arith in
      let j : base + (a + n) ≡ base + a + n = omega arith in
      ap (λ l. drop (a + n) (take k (drop base m)) ++ l) (sym (drop-drop k base m))
      ∙ sym (drop-append-le (a + n) (take k (drop base m)) (drop k (drop base m)) i)
      ∙ ap (drop (a + n)) (take-append-drop k (drop base m))
      ∙ drop-drop (a + n) base m
      ∙ ap (λ l. drop l m) j

  pub store_part_lem : (x : ℕ) → stored_at n m (base + a) x ≡ stored_at k m base (from_bytes (stored_at n (to_bytes k (load_at k m base)) a x))
  unfolding stored_at
  store_part_lem x =
      let again : to_bytes k (from_bytes (changed x)) ≡ changed x = ap (λ j. to_bytes j (from_bytes (changed x))) (sym (long x)) ∙ to_from (changed x) (small x) in
      sym
      (ap (λ l. stored_at k m base (from_bytes (stored_at n l a x))) (to_loaded k m base fits (below m bytes))
      ∙ ap (λ l. take base m ++ l ++ drop (base + k) m) again
      ∙ regroup (take base m) (take a (take k (drop base m))) (to_bytes n x) (drop (a + n) (take k (drop base m))) (drop (base + k) m)
      ∙ (λ i. front i ++ to_bytes n x ++ back i))
