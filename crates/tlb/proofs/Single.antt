-- In a table that is not doubled no address that is translated meets two matches.
use mathlib.Core.Path.{◌≡◌, refl, sym, ◌∙◌}
use mathlib.Core.Bool.{Bool, cond, true, false, ◌||◌, true≢false, or-true, or-false}
use mathlib.Core.List.{List, [], ◌∷◌}
use Prim.Native.Nat.{ℕ, suc, ◌≤◌}
use native.Mathlib.Omega.{arith}
use borrow.Author.Tests.{eqb-true, eq-eqb, le-leb}
use lib.Dec.{eqb}
use Rattle.std.specs.Prelude.{is_some}
use Rattle.word.proofs.Cond.{both}
use Rattle.tlb.specs.Entry.{page_of, asid_of, is_global, matches_of}
use Rattle.tlb.specs.Search.{hit_at, is_twice, first_from, found_in}
use Rattle.tlb.specs.Doubled.{clash_of, clashes_in, doubled_in}
use Rattle.tlb.specs.declared.Row.{Row}

neither : (a b : Bool) → (a || b) ≡ false → (a ≡ false) × (b ≡ false)
neither false b e = (refl, e)
neither true b e = absurd (true≢false e)

-- two ASIDs that each are the one sought, or have G: they are the same, or one of the two has G
either : (x y s : ℕ) (h g : Bool) → (eqb x s || g) ≡ true → (eqb y s || h) ≡ true → ((eqb y x || h) || (eqb x y || g)) ≡ true
either x y s true g e f = rw (or-true (eqb y x))
either x y s false true e f = rw (or-true (eqb x y), or-true (eqb y x || false))
either x y s false false e f = rw (eq-eqb y x (eqb-true y s (sym (or-false _) ∙ f) ∙ sym (eqb-true x s (sym (or-false _) ∙ e))))

module _ (sought : ℕ) (translated : 0x20000000 ≤ sought) where
  both_clash : (a b : Row) → matches_of sought a ≡ true → matches_of sought b ≡ true → clash_of a b ≡ true
  unfolding matches_of clash_of
  both_clash a b e f =
      let g = both (eqb (page_of a.high) (page_of sought)) (eqb (asid_of a.high) (asid_of sought) || is_global a.low) e in
      let h = both (eqb (page_of b.high) (page_of sought)) (eqb (asid_of b.high) (asid_of sought) || is_global b.low) f in
      let x : page_of a.high ≡ page_of sought = eqb-true _ _ g.0 in
      let y : page_of b.high ≡ page_of sought = eqb-true _ _ h.0 in
      let above : 0x20000000 ≤ a.high = omega arith in
      rw (le-leb 0x20000000 a.high above, eq-eqb _ _ (y ∙ sym x), eq-eqb _ _ (x ∙ sym y))
      (either (asid_of a.high) (asid_of b.high) (asid_of sought) (is_global b.low) (is_global a.low) g.1 h.1)

  -- behind a row that matches, and clashes with none of them, none matches
  alone : (row : Row) → matches_of sought row ≡ true → (rows : List Row) (i : ℕ) → clashes_in row rows ≡ false → is_some (first_from (matches_of sought) i rows) ≡ false
  unfolding first_from
  alone row hit [] i e = refl
  alone row hit (other ∷ rows) i e =
      let n = neither (clash_of row other) (clashes_in row rows) e in
      go (matches_of sought other) refl n.0 (alone row hit rows (suc i) n.1)
    where
      go : (b : Bool) → matches_of sought other ≡ b → clash_of row other ≡ false → is_some (first_from (matches_of sought) (suc i) rows) ≡ false →
          is_some (cond b (hit_at i (is_some (first_from (matches_of sought) (suc i) rows))) (first_from (matches_of sought) (suc i) rows)) ≡ false
      go true is free later = absurd (true≢false (sym (both_clash row other hit is) ∙ free))
      go false is free later = later

  single_from : (t : List Row) (i : ℕ) → doubled_in t ≡ false → is_twice (first_from (matches_of sought) i t) ≡ false
  unfolding first_from doubled_in
  single_from [] i e = refl
  single_from (row ∷ rows) i e =
      let n = neither (clashes_in row rows) (doubled_in rows) e in
      go (matches_of sought row) refl n.0 (single_from rows (suc i) n.1)
    where
      go : (b : Bool) → matches_of sought row ≡ b → clashes_in row rows ≡ false → is_twice (first_from (matches_of sought) (suc i) rows) ≡ false →
          is_twice (cond b (hit_at i (is_some (first_from (matches_of sought) (suc i) rows))) (first_from (matches_of sought) (suc i) rows)) ≡ false
      go true is free later = alone row is rows (suc i) free
      go false is free later = later

pub single : (t : List Row) (sought : ℕ) → 0x20000000 ≤ sought → doubled_in t ≡ false → is_twice (found_in sought t) ≡ false
single t sought translated e = single_from sought translated t 0 e
