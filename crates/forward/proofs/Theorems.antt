-- What run's statement amounts to: each number exactly where its row applies and no lower one does, refusals that write nothing, one answer only.
use Prim.Native.Nat.{ℕ, ◌≤◌}
use mathlib.Core.Path.{◌≡◌, refl, sym, ap, ◌∙◌}
use mathlib.Core.Logic.{◌↔◌}
use mathlib.Core.Bool.{Bool, true, false, cond}
use mathlib.Core.List.{List, [], ◌∷◌}
use native.Mathlib.Omega.{arith}
use lib.Dec.{leb}
use lib.ListN.{length}
use Rattle.rules.specs.Rules.{good_image}
use Rattle.answer.specs.declared.Refusal.TheVariants.{Ram, Rom, Paper, Journal, Image, Range, Index}
use Rattle.std.specs.Prelude.{Ok, Err}
use Rattle.answer.specs.Answer.{number_of, Answer}
use Rattle.std.specs.Result.{result_and}
use Rattle.answer.specs.Lent.{ram_fits, roms_fit, paper_fits, journal_fits, index_fits, lent_test, Test, passed}
use Rattle.answer.proofs.Rows.{Row, row, number_in, number_at, First, Rising, number_exact, zero_exact, number_other, number_most}
use Rattle.turn.specs.Buffers.{Buffers}
use Rattle.accepted.specs.Left.{Left, left_of, left_by, Unchanged}
use Rattle.forward.specs.Run.{image_test, run_test, done_run, run_leaves}

-- ---- seven tests in a row

abbrev test_of : (a b c d e f g : Bool) → Test
test_of a b c d e f g =
    result_and (cond a (cond b (cond c (cond d passed (Err Journal)) (Err Paper)) (Err Rom)) (Err Ram))
    (cond e (cond f (cond g passed (Err Index)) (Err Range)) (Err Image))

abbrev rows_of : (a b c d e f g : Bool) → List Row
rows_of a b c d e f g = row 1 a ∷ row 2 b ∷ row 3 c ∷ row 4 d ∷ row 5 e ∷ row 6 f ∷ row 10 g ∷ []

-- where what is done has the number 0
module _ (done : Left) (zeroed : number_of done.answer ≡ 0) (buffers : Buffers) where
  by_rows : (a b c d e f g : Bool) → number_of (left_by (test_of a b c d e f g) done buffers).answer ≡ number_in (rows_of a b c d e f g)
  by_rows true true true true true true true = zeroed
  by_rows true true true true true true false = refl
  by_rows true true true true true false g = refl
  by_rows true true true true false f g = refl
  by_rows true true true false e f g = refl
  by_rows true true false d e f g = refl
  by_rows true false c d e f g = refl
  by_rows false b c d e f g = refl

-- ---- a refusal

unchanged : (t : Test) (done : Left) (buffers : Buffers) → number_of done.answer ≡ 0 →
    let left = left_by t done buffers in (number_of left.answer ≡ 0 → ⊥) → Unchanged left buffers
unchanged (Ok _) done buffers zeroed h = absurd (h zeroed)
unchanged (Err refusal) done buffers zeroed h = record { same = refl; no_steps = refl; no_reason = refl }

-- ---- the call

module _ (buffers : Buffers) (budget stop : ℕ) where
  abbrev left : Left
  left = run_leaves buffers budget stop

  abbrev done : Left
  done = done_run buffers budget stop

  abbrev pub run_number : ℕ
  run_number = number_of left.answer

  done_zero : number_of done.answer ≡ 0
  unfolding done_run
  done_zero = refl

  -- rows 1 to 6 and 10 of the numbers, as tests
  abbrev row_1 : Bool
  row_1 = ram_fits (length buffers.beside.ram)

  abbrev row_2 : Bool
  row_2 = roms_fit (length buffers.beside.execution) (length buffers.beside.bootstrap)

  abbrev row_3 : Bool
  row_3 = paper_fits (length buffers.beside.paper)

  abbrev row_4 : Bool
  row_4 = journal_fits (length buffers.beside.journal)

  abbrev row_5 : Bool
  row_5 = good_image buffers.image (length buffers.beside.paper) (length buffers.beside.journal)

  abbrev row_6 : Bool
  row_6 = leb budget 1000000

  abbrev row_10 : Bool
  row_10 = index_fits (length buffers.beside.ram) (length buffers.beside.index)

  abbrev rows : List Row
  rows = rows_of row_1 row_2 row_3 row_4 row_5 row_6 row_10

  says : run_number ≡ number_in rows
  unfolding run_leaves lent_test image_test
  says = by_rows done done_zero buffers row_1 row_2 row_3 row_4 row_5 row_6 row_10

  rising : Rising 0 rows
  rising = (omega arith, (omega arith, (omega arith, (omega arith, (omega arith, (omega arith, (omega arith, tt)))))))

  -- each number is answered exactly when its row fails and no lower row does
  exact : (k : ℕ) → (run_number ≡ number_at k rows) ↔ First k rows
  exact k = number_exact rows rising run_number says k

  pub number_1 : (run_number ≡ 1) ↔ (row_1 ≡ false)
  number_1 = exact 0

  pub number_2 : (run_number ≡ 2) ↔ ((row_1 ≡ true) × (row_2 ≡ false))
  number_2 = exact 1

  pub number_3 : (run_number ≡ 3) ↔ ((row_1 ≡ true) × ((row_2 ≡ true) × (row_3 ≡ false)))
  number_3 = exact 2

  pub number_4 : (run_number ≡ 4) ↔ ((row_1 ≡ true) × ((row_2 ≡ true) × ((row_3 ≡ true) × (row_4 ≡ false))))
  number_4 = exact 3

  pub number_5 : (run_number ≡ 5) ↔ ((row_1 ≡ true) × ((row_2 ≡ true) × ((row_3 ≡ true) × ((row_4 ≡ true) × (row_5 ≡ false)))))
  number_5 = exact 4

  pub number_6 : (run_number ≡ 6) ↔ ((row_1 ≡ true) × ((row_2 ≡ true) × ((row_3 ≡ true) × ((row_4 ≡ true) × ((row_5 ≡ true) × (row_6 ≡ false))))))
  number_6 = exact 5

  pub number_10 : (run_number ≡ 10) ↔ ((row_1 ≡ true) × ((row_2 ≡ true) × ((row_3 ≡ true) × ((row_4 ≡ true) × ((row_5 ≡ true) × ((row_6 ≡ true) × (row_10 ≡ false)))))))
  number_10 = exact 6

  pub number_0 : (run_number ≡ 0) ↔ ((row_1 ≡ true) × ((row_2 ≡ true) × ((row_3 ≡ true) × ((row_4 ≡ true) × ((row_5 ≡ true) × ((row_6 ≡ true) × (row_10 ≡ true)))))))
  number_0 = zero_exact rows rising run_number says

  -- and no other number: no step is taken back, no record checked and no address asked for
  pub never_7 : run_number ≡ 7 → ⊥
  never_7 e = number_other rows 7 refl (sym says ∙ e)

  pub never_8 : run_number ≡ 8 → ⊥
  never_8 e = number_other rows 8 refl (sym says ∙ e)

  pub never_9 : run_number ≡ 9 → ⊥
  never_9 e = number_other rows 9 refl (sym says ∙ e)

  pub no_other : run_number ≤ 10
  no_other = rw says (number_most rows 10 (omega arith, (omega arith, (omega arith, (omega arith, (omega arith, (omega arith, (omega arith, tt))))))))

  -- a refusal leaves every byte as it was
  pub refused_same : (run_number ≡ 0 → ⊥) → Unchanged left buffers
  unfolding run_leaves
  refused_same h = unchanged (run_test buffers budget) done buffers done_zero h

  tests_passed : run_number ≡ 0 → run_test buffers budget ≡ passed
  unfolding lent_test image_test
  tests_passed e =
      let h = number_0.0 e in
      rw (h.0, h.1.0, h.1.1.0, h.1.1.1.0, h.1.1.1.1.0, h.1.1.1.1.1.0, h.1.1.1.1.1.1)

  -- what is not refused is run
  pub done_is : run_number ≡ 0 → left ≡ done
  unfolding run_leaves
  done_is e = ap (λ (t : Test). left_by t done buffers) (tests_passed e)

  -- what two calls answer and leave that both keep the contract is the same
  pub one_answer : {r₁ r₂ : Answer} {after₁ after₂ : Buffers} → left_of r₁ after₁ ≡ left → left_of r₂ after₂ ≡ left → (r₁ ≡ r₂) × (after₁ ≡ after₂)
  one_answer p q =
      let e = p ∙ sym q in
      (ap (λ (l : Left). l.answer) e, ap (λ (l : Left). l.buffers) e)
