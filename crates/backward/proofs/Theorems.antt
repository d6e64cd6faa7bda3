-- What take-back's statement amounts to: each number exactly where its row applies and no lower one does, refusals that write nothing, one answer only.
use Prim.Native.Nat.{ℕ, ◌≤◌}
use mathlib.Core.Path.{◌≡◌, refl, sym, ap, ◌∙◌}
use mathlib.Core.Logic.{◌↔◌}
use mathlib.Core.Bool.{Bool, true, false, cond}
use mathlib.Core.List.{List, [], ◌∷◌}
use native.Mathlib.Omega.{arith}
use borrow.Author.Tests.{le-leb, lt-leb, leb-true}
use lib.Dec.{leb}
use lib.ListN.{length}
use Rattle.ring.specs.Slots.{Ring, lowered}
use Rattle.ring.specs.Run.{Config}
use Rattle.ring.specs.Back.{How, Took, undone, undone_side, all_fit, done, too_far, bad_record}
use Rattle.ring.proofs.Slots.{by_leb}
use Rattle.ring.proofs.Back.{back_far, back_bad, back_done}
use Rattle.journal.specs.Journal.{slots_of, ring_of}
use Rattle.state.specs.Layout.{machine_of}
use Rattle.rules.specs.Rules.{good_image}
use Rattle.turn.specs.Buffers.{Buffers}
use Rattle.run.specs.Run.{config_of}
use Rattle.back.specs.Back.{both, no_roms, back_of}
use Rattle.answer.specs.declared.Refusal.TheVariants.{Ram, Paper, Journal, Image, Index}
use Rattle.std.specs.Prelude.{Ok, Err}
use Rattle.answer.specs.Answer.{number_of, reason_of, steps_of, Answer}
use Rattle.std.specs.Result.{result_and}
use Rattle.answer.specs.Lent.{ram_fits, paper_fits, journal_fits, index_fits, Test, passed}
use Rattle.answer.proofs.Rows.{Row, row, number_in, number_at, First, Rising, number_exact, zero_exact, number_other, number_most}
use Rattle.accepted.specs.After.{world_from}
use Rattle.accepted.specs.Left.{Left, left_of, left_by, Unchanged}
use Rattle.backward.specs.Back.{buffers_test, rule_test, back_test, done_back, left_how, took_leaves, tried_back, back_leaves}

-- ---- seven tests in a row

abbrev test_of : (a b c d : Bool) → Test
test_of a b c d = result_and (cond a (cond b (cond c passed (Err Journal)) (Err Paper)) (Err Ram)) (cond d passed (Err Image))

-- the number of what the first four tests let through
abbrev tried_number : Bool → Bool → Bool → ℕ
tried_number e f g = cond e (cond f (cond g 0 10) 8) 7

abbrev rows_of : (a b c d e f g : Bool) → List Row
rows_of a b c d e f g = row 1 a ∷ row 3 b ∷ row 4 c ∷ row 5 d ∷ row 7 e ∷ row 8 f ∷ row 10 g ∷ []

module _ (tried : Left) (buffers : Buffers) where
  by_rows : (a b c d e f g : Bool) → number_of tried.answer ≡ tried_number e f g →
      number_of (left_by (test_of a b c d) tried buffers).answer ≡ number_in (rows_of a b c d e f g)
  by_rows true true true true e f g is = is
  by_rows true true true false e f g is = refl
  by_rows true true false d e f g is = refl
  by_rows true false c d e f g is = refl
  by_rows false b c d e f g is = refl

-- ---- a refusal

unchanged_took : (k : ℕ) (buffers : Buffers) (t : Took (both no_roms)) →
    let left = took_leaves k buffers t in (number_of left.answer ≡ 0 → ⊥) → Unchanged left buffers
unchanged_took k buffers t h = by t.answer h
  where
    by_index : (each : Bool) →
        let left = cond each (done_back k buffers.beside t.config.state t.config.side t.config.ring) (left_of (Err Index) buffers) in
        (number_of left.answer ≡ 0 → ⊥) → Unchanged left buffers
    by_index true h = absurd (h refl)
    by_index false h = record { same = refl; no_steps = refl; no_reason = refl }

    by : (how : How) →
        let left = left_how how (done_back k buffers.beside t.config.state t.config.side t.config.ring) buffers in
        (number_of left.answer ≡ 0 → ⊥) → Unchanged left buffers
    by done h = by_index (index_fits (length buffers.beside.ram) (length buffers.beside.index)) h
    by too_far h = record { same = refl; no_steps = refl; no_reason = refl }
    by bad_record h = record { same = refl; no_steps = refl; no_reason = refl }

unchanged : (t : Test) (tried : Left) (buffers : Buffers) → ((number_of tried.answer ≡ 0 → ⊥) → Unchanged tried buffers) →
    let left = left_by t tried buffers in (number_of left.answer ≡ 0 → ⊥) → Unchanged left buffers
unchanged (Ok _) tried buffers took h = took h
unchanged (Err refusal) tried buffers took h = record { same = refl; no_steps = refl; no_reason = refl }

-- ---- the call

module _ (buffers : Buffers) (k : ℕ) where
  abbrev left : Left
  left = back_leaves buffers k

  abbrev tried : Left
  tried = tried_back buffers k

  abbrev pub back_number : ℕ
  back_number = number_of left.answer

  abbrev journal : List ℕ
  journal = buffers.beside.journal

  abbrev n : ℕ
  n = slots_of journal

  abbrev mark : Ring
  mark = ring_of (machine_of buffers.image).journal journal

  -- rows 1, 3, 4, 5, 7, 8 and 10 of the numbers, as tests
  abbrev row_1 : Bool
  row_1 = ram_fits (length buffers.beside.ram)

  abbrev row_3 : Bool
  row_3 = paper_fits (length buffers.beside.paper)

  abbrev row_4 : Bool
  row_4 = journal_fits (length journal)

  abbrev row_5 : Bool
  row_5 = good_image buffers.image (length buffers.beside.paper) (length journal)

  -- no more is asked than the image has on hand
  abbrev row_7 : Bool
  row_7 = leb k mark.hand

  -- each of the k newest records is well formed in the state that undoing the newer ones gives
  abbrev row_8 : Bool
  row_8 = all_fit (both no_roms) n journal mark.next k (world_from buffers)

  -- sixteen bytes of index for each frame of RAM
  abbrev row_10 : Bool
  row_10 = index_fits (length buffers.beside.ram) (length buffers.beside.index)

  -- the state and the index with the k newest records undone, and the ring with them given up
  abbrev pub done_leaves : Left
  done_leaves =
      done_back k buffers.beside (undone (both no_roms) n journal mark.next k (world_from buffers))
      (undone_side (both no_roms) n journal mark.next k mark.hand (world_from buffers) buffers.beside.index) (lowered n k mark)

  abbrev here : Config (both no_roms).forward
  here = config_of no_roms (machine_of buffers.image) buffers.beside

  tried_done : row_7 ≡ true → row_8 ≡ true → row_10 ≡ true → tried ≡ done_leaves
  unfolding tried_back
  tried_done near fit each = rw (back_done (both no_roms) n here k (leb-true k mark.hand near) fit, each)

  tried_number_lem : number_of tried.answer ≡ tried_number row_7 row_8 row_10
  unfolding tried_back
  tried_number_lem =
      by_leb k mark.hand
      (λ l. rw (le-leb k mark.hand l) (near l row_8 refl row_10 refl))
      (λ l. rw (lt-leb k mark.hand l, back_far (both no_roms) n here k l))
    where
      near : k ≤ mark.hand → (f : Bool) → row_8 ≡ f → (g : Bool) → row_10 ≡ g →
          number_of (took_leaves k buffers (back_of k (machine_of buffers.image) buffers.beside)).answer ≡ cond row_8 (cond row_10 0 10) 8
      near l true e true x = rw (e, back_done (both no_roms) n here k l e, x)
      near l true e false x = rw (e, back_done (both no_roms) n here k l e, x)
      near l false e g x = rw (e, back_bad (both no_roms) n here k l e)

  abbrev rows : List Row
  rows = rows_of row_1 row_3 row_4 row_5 row_7 row_8 row_10

  says : back_number ≡ number_in rows
  unfolding back_leaves buffers_test rule_test
  says = by_rows tried buffers row_1 row_3 row_4 row_5 row_7 row_8 row_10 tried_number_lem

  rising : Rising 0 rows
  rising = (omega arith, (omega arith, (omega arith, (omega arith, (omega arith, (omega arith, (omega arith, tt)))))))

  -- each number is answered exactly when its row fails and no lower row does
  exact : (i : ℕ) → (back_number ≡ number_at i rows) ↔ First i rows
  exact i = number_exact rows rising back_number says i

  pub number_1 : (back_number ≡ 1) ↔ (row_1 ≡ false)
  number_1 = exact 0

  pub number_3 : (back_number ≡ 3) ↔ ((row_1 ≡ true) × (row_3 ≡ false))
  number_3 = exact 1

  pub number_4 : (back_number ≡ 4) ↔ ((row_1 ≡ true) × ((row_3 ≡ true) × (row_4 ≡ false)))
  number_4 = exact 2

  pub number_5 : (back_number ≡ 5) ↔ ((row_1 ≡ true) × ((row_3 ≡ true) × ((row_4 ≡ true) × (row_5 ≡ false))))
  number_5 = exact 3

  pub number_7 : (back_number ≡ 7) ↔ ((row_1 ≡ true) × ((row_3 ≡ true) × ((row_4 ≡ true) × ((row_5 ≡ true) × (row_7 ≡ false)))))
  number_7 = exact 4

  pub number_8 : (back_number ≡ 8) ↔ ((row_1 ≡ true) × ((row_3 ≡ true) × ((row_4 ≡ true) × ((row_5 ≡ true) × ((row_7 ≡ true) × (row_8 ≡ false))))))
  number_8 = exact 5

  -- document 02, L6
  pub number_10 : (back_number ≡ 10)
      ↔ ((row_1 ≡ true) × ((row_3 ≡ true) × ((row_4 ≡ true) × ((row_5 ≡ true) × ((row_7 ≡ true) × ((row_8 ≡ true) × (row_10 ≡ false)))))))
  number_10 = exact 6

  pub number_0 : (back_number ≡ 0) ↔ ((row_1 ≡ true) × ((row_3 ≡ true) × ((row_4 ≡ true) × ((row_5 ≡ true) × ((row_7 ≡ true) × ((row_8 ≡ true) × (row_10 ≡ true)))))))
  number_0 = zero_exact rows rising back_number says

  -- and no other number: no ROM and no range is tested, and no address asked for
  pub never_2 : back_number ≡ 2 → ⊥
  never_2 e = number_other rows 2 refl (sym says ∙ e)

  pub never_6 : back_number ≡ 6 → ⊥
  never_6 e = number_other rows 6 refl (sym says ∙ e)

  pub never_9 : back_number ≡ 9 → ⊥
  never_9 e = number_other rows 9 refl (sym says ∙ e)

  pub no_other : back_number ≤ 10
  no_other = rw says (number_most rows 10 (omega arith, (omega arith, (omega arith, (omega arith, (omega arith, (omega arith, (omega arith, tt))))))))

  -- a refusal leaves every byte as it was
  pub refused_same : (back_number ≡ 0 → ⊥) → Unchanged left buffers
  unfolding back_leaves tried_back
  refused_same h =
      unchanged (back_test buffers) tried buffers (unchanged_took k buffers (back_of k (machine_of buffers.image) buffers.beside)) h

  tests_passed : back_number ≡ 0 → back_test buffers ≡ passed
  unfolding buffers_test rule_test
  tests_passed e =
      let h = number_0.0 e in
      rw (h.0, h.1.0, h.1.1.0, h.1.1.1.0)

  -- what is not refused is taken back
  pub done_is : back_number ≡ 0 → left ≡ done_leaves
  unfolding back_leaves
  done_is e =
      let h = number_0.0 e in
      ap (λ (t : Test). left_by t tried buffers) (tests_passed e) ∙ tried_done h.1.1.1.1.0 h.1.1.1.1.1.0 h.1.1.1.1.1.1

  -- "A done take-back of k reports k and no reason"
  pub done_steps : back_number ≡ 0 → (steps_of left.answer ≡ k) × (reason_of left.answer ≡ 0)
  done_steps e =
      let d = done_is e in
      (ap (λ (l : Left). steps_of l.answer) d, ap (λ (l : Left). reason_of l.answer) d)

  -- what two calls answer and leave that both keep the contract is the same
  pub one_answer : {r₁ r₂ : Answer} {after₁ after₂ : Buffers} → left_of r₁ after₁ ≡ left → left_of r₂ after₂ ≡ left → (r₁ ≡ r₂) × (after₁ ≡ after₂)
  one_answer p q =
      let e = p ∙ sym q in
      (ap (λ (l : Left). l.answer) e, ap (λ (l : Left). l.buffers) e)
