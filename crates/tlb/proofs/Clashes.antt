-- The looks for two rows that clash, one entry further, over any table: what a turn of each loop shows.
use mathlib.Core.Path.{◌≡◌}
use mathlib.Core.Bool.{true, false, ◌||◌}
use mathlib.Core.List.{List}
use Prim.Native.Nat.{ℕ, ◌+◌, ◌-◌, ◌<◌, ◌≤◌}
use native.Mathlib.Numerals.{add-one}
use native.Mathlib.Omega.{arith}
use Rattle.std.proofs.lemmas.List.{take_all}
use lib.ListN.{length, get_or, take, drop, length-drop, drop_of_length-le}
use lib.Seq.{drop-cons}
use Rattle.tlb.specs.Entry.{no_row}
use Rattle.tlb.specs.Doubled.{clashes_in, doubled_in}
use Rattle.tlb.specs.declared.Row.{Row}

module _ (t : List Row) (i : ℕ) where
  pub double_end : length t ≤ i → doubled_in (drop i t) ≡ false
  unfolding doubled_in
  double_end h = rw (drop_of_length-le t h)

  one_on : i < length t → doubled_in (drop i t) ≡ (clashes_in (get_or t i no_row) (drop (i + 1) t) || doubled_in (drop (i + 1) t))
  unfolding doubled_in
  one_on h = rw (add-one, drop-cons t i no_row h)

  pub double_hit : i < length t → clashes_in (get_or t i no_row) (drop (i + 1) t) ≡ true → doubled_in (drop i t) ≡ true
  double_hit h e = rw (one_on h, e)

  pub double_miss : i < length t → clashes_in (get_or t i no_row) (drop (i + 1) t) ≡ false → doubled_in (drop i t) ≡ doubled_in (drop (i + 1) t)
  double_miss h e = rw (one_on h, e)

  -- the rows behind entry i, as the code lends them
  pub behind : length t ≡ 16 → take (16 - (i + 1)) (drop (i + 1) t) ≡ drop (i + 1) t
  behind sixteen = take_all (16 - (i + 1)) (drop (i + 1) t) (rw length-drop (omega arith))
