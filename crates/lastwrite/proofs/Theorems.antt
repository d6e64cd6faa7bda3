-- What last_write's statement amounts to: each number exactly where its row applies and no lower one does, refusals that write nothing, one answer only.
use Rattle.std.proofs.Common.{◌≡◌, ℕ, zero, suc, ◌^◌, ◌<◌, ◌≤◌, Bool, true, false, cond, eqb, ◌↔◌, List, [], ◌∷◌, map, length, replicate, sym, refl, ap, ◌∙◌, arith}
use native.Mathlib.Decide.{ℕ_discrete}
use Rattle.word.specs.Lists.{flat}
use Rattle.word.specs.Big.{word_bytes}
use Rattle.memory.specs.Memory.{load_at}
use Rattle.state.specs.Layout.{machine_of}
use Rattle.state.specs.declared.machine.Machine.{Machine}
use Rattle.rules.specs.Rules.{good_image}
use Rattle.turn.specs.Buffers.{Buffers}
use Rattle.seek.specs.OnHand.{fits_in, held_of, records_of}
use Rattle.seek.specs.Latest.{Write, Answers, scan, Altered}
use Rattle.seek.specs.Seek.{has_word, writes_of, last_change_of}
use Rattle.seek.specs.declared.Change.{Change}
use Rattle.seek.proofs.OnHand.{held_long}
use Rattle.seek.proofs.Latest.{scan_answers}
use Rattle.answer.specs.Answer.{number_of, reason_of, steps_of, packed_of, Answer}
use Rattle.std.specs.Result.{result_and}
use Rattle.answer.specs.Lent as lent
use Rattle.answer.specs.Lent.{ram_fits, paper_fits, journal_fits, index_fits, Test}
use Rattle.answer.specs.declared.Refusal.TheVariants.{Ram, Paper, Journal, Image, BadRecord, Index, Word, Room}
use Rattle.std.specs.Prelude.{Option, Some, None, Ok, Err}
use Rattle.answer.proofs.Rows.{Row, row, number_in, number_at, First, Rising, number_exact, zero_exact, number_other, number_most}
use Rattle.accepted.proofs.Start.{few_slots, ring_sound, image_mark}
use Rattle.backward.specs.Back.{buffers_test, rule_test}
use Rattle.lastwrite.specs.LastWrite.{records_fit, word_fits, rest_test, asked_test, last_write_test, place_of, found_in, time_in, answer_words, done_of, answer_by, bytes_by, last_write_answer, last_write_bytes, LastWriteIs}

-- ---- eight tests in a row

abbrev test_of : (a b c d e f g h : Bool) → Test
test_of a b c d e f g h =
    result_and (result_and (cond a (cond b (cond c lent.passed (Err Journal)) (Err Paper)) (Err Ram)) (cond d lent.passed (Err Image)))
    (cond e (cond f (cond g (cond h lent.passed (Err Room)) (Err Word)) (Err Index)) (Err BadRecord))

abbrev rows_of : (a b c d e f g h : Bool) → List Row
rows_of a b c d e f g h = row 1 a ∷ row 3 b ∷ row 4 c ∷ row 5 d ∷ row 8 e ∷ row 10 f ∷ row 11 g ∷ row 12 h ∷ []

done_number : (found : Option Change) → number_of (done_of found) ≡ 0
done_number None = refl
done_number (Some c) = refl

by_rows : (found : Option Change) (a b c d e f g h : Bool) → number_of (answer_by (test_of a b c d e f g h) found) ≡ number_in (rows_of a b c d e f g h)
by_rows found true true true true true true true true = done_number found
by_rows found true true true true true true true false = refl
by_rows found true true true true true true false h = refl
by_rows found true true true true true false g h = refl
by_rows found true true true true false f g h = refl
by_rows found true true true false e f g h = refl
by_rows found true true false d e f g h = refl
by_rows found true false c d e f g h = refl
by_rows found false b c d e f g h = refl

-- ---- what is found

-- a step that is found is one of those on hand
within : (place word : ℕ) (steps : List (List Write)) (r : Option Change) → Answers place steps word r → steps_of (done_of r) ≤ length steps
within place word steps None h = omega arith
within place word steps (Some c) h = go c.step c.old c.new h
  where
    go : (step old new : ℕ) → Altered place steps word step old new → step ≤ length steps
    go zero old new h = absurd h
    go (suc k) old new h = h.within

records_most : (journal : List ℕ) (hand next : ℕ) → length (map writes_of (records_of journal hand next)) ≤ hand
records_most journal hand next = go (fits_in journal hand next)
  where
    go : (fit : Bool) → length (map writes_of (cond fit (held_of journal hand next) [])) ≤ hand
    go true = omega (arith, held_long writes_of journal hand next)
    go false = omega arith

change_most : (ram journal : List ℕ) (hand next place : ℕ) → steps_of (done_of (last_change_of ram journal hand next place)) ≤ hand
unfolding last_change_of
change_most ram journal hand next place = go (has_word ram place)
  where
    go : (has : Bool) → steps_of (done_of (cond has (scan place (load_at 4 ram place) 0 (map writes_of (records_of journal hand next))) None)) ≤ hand
    go true =
        let word = load_at 4 ram place in
        let steps = map writes_of (records_of journal hand next) in
        omega (arith, within place word steps (scan place word 0 steps) (scan_answers place word steps), records_most journal hand next)
    go false = omega arith

no_reason : (found : Option Change) → reason_of (done_of found) ≡ 0
no_reason None = refl
no_reason (Some c) = refl

-- ---- the call

module _ (b : Buffers) (address : ℕ) where
  abbrev found : Option Change
  found = found_in b address

  abbrev machine : Machine
  machine = machine_of b.image

  -- rows 1, 3, 4, 5, 8, 10 and 11 of the numbers, as tests
  abbrev row_1 : Bool
  row_1 = ram_fits (length b.beside.ram)

  abbrev row_3 : Bool
  row_3 = paper_fits (length b.beside.paper)

  abbrev row_4 : Bool
  row_4 = journal_fits (length b.beside.journal)

  abbrev row_5 : Bool
  row_5 = good_image b.image (length b.beside.paper) (length b.beside.journal)

  abbrev row_8 : Bool
  row_8 = records_fit machine b.beside

  abbrev row_10 : Bool
  row_10 = index_fits (length b.beside.ram) (length b.beside.index)

  abbrev row_11 : Bool
  row_11 = word_fits (length b.beside.ram) address

  -- with an answer buffer of so many bytes
  module _ (room : ℕ) where
    abbrev pub last_write_number : ℕ
    last_write_number = number_of (last_write_answer b address room)

    abbrev row_12 : Bool
    row_12 = eqb room 16

    abbrev rows : List Row
    rows = rows_of row_1 row_3 row_4 row_5 row_8 row_10 row_11 row_12

    says : last_write_number ≡ number_in rows
    unfolding buffers_test rule_test asked_test rest_test
    says = by_rows found row_1 row_3 row_4 row_5 row_8 row_10 row_11 row_12

    rising : Rising 0 rows
    rising = (omega arith, (omega arith, (omega arith, (omega arith, (omega arith, (omega arith, (omega arith, (omega arith, tt))))))))

    -- each number is answered exactly when its row fails and no lower row does
    exact : (k : ℕ) → (last_write_number ≡ number_at k rows) ↔ First k rows
    exact k = number_exact rows rising last_write_number says k

    pub number_1 : (last_write_number ≡ 1) ↔ (row_1 ≡ false)
    number_1 = exact 0

    pub number_3 : (last_write_number ≡ 3) ↔ ((row_1 ≡ true) × (row_3 ≡ false))
    number_3 = exact 1

    pub number_4 : (last_write_number ≡ 4) ↔ ((row_1 ≡ true) × ((row_3 ≡ true) × (row_4 ≡ false)))
    number_4 = exact 2

    pub number_5 : (last_write_number ≡ 5) ↔ ((row_1 ≡ true) × ((row_3 ≡ true) × ((row_4 ≡ true) × (row_5 ≡ false))))
    number_5 = exact 3

    pub number_8 : (last_write_number ≡ 8) ↔ ((row_1 ≡ true) × ((row_3 ≡ true) × ((row_4 ≡ true) × ((row_5 ≡ true) × (row_8 ≡ false)))))
    number_8 = exact 4

    -- document 02, L6
    pub number_10 : (last_write_number ≡ 10) ↔ ((row_1 ≡ true) × ((row_3 ≡ true) × ((row_4 ≡ true) × ((row_5 ≡ true) × ((row_8 ≡ true) × (row_10 ≡ false))))))
    number_10 = exact 5

    pub number_11 : (last_write_number ≡ 11)
        ↔ ((row_1 ≡ true) × ((row_3 ≡ true) × ((row_4 ≡ true) × ((row_5 ≡ true) × ((row_8 ≡ true) × ((row_10 ≡ true) × (row_11 ≡ false)))))))
    number_11 = exact 6

    pub number_12 : (last_write_number ≡ 12)
        ↔ ((row_1 ≡ true) × ((row_3 ≡ true) × ((row_4 ≡ true) × ((row_5 ≡ true) × ((row_8 ≡ true) × ((row_10 ≡ true) × ((row_11 ≡ true) × (row_12 ≡ false))))))))
    number_12 = exact 7

    pub number_0 : (last_write_number ≡ 0)
        ↔ ((row_1 ≡ true) × ((row_3 ≡ true) × ((row_4 ≡ true) × ((row_5 ≡ true) × ((row_8 ≡ true) × ((row_10 ≡ true) × ((row_11 ≡ true) × (row_12 ≡ true))))))))
    number_0 = zero_exact rows rising last_write_number says

    -- and no other number: no ROM is lent, no range and no count of steps is asked for
    pub never_2 : last_write_number ≡ 2 → ⊥
    never_2 e = number_other rows 2 refl (sym says ∙ e)

    pub never_6 : last_write_number ≡ 6 → ⊥
    never_6 e = number_other rows 6 refl (sym says ∙ e)

    -- all that is on hand is never too far
    pub never_7 : last_write_number ≡ 7 → ⊥
    never_7 e = number_other rows 7 refl (sym says ∙ e)

    pub never_9 : last_write_number ≡ 9 → ⊥
    never_9 e = number_other rows 9 refl (sym says ∙ e)

    pub no_other : last_write_number ≤ 12
    no_other = rw says (number_most rows 12 (omega arith, (omega arith, (omega arith, (omega arith, (omega arith, (omega arith, (omega arith, (omega arith, tt)))))))))

    -- what is not refused passed every test
    pub passed : last_write_number ≡ 0 → last_write_test b address room ≡ lent.passed
    unfolding buffers_test rule_test asked_test rest_test
    passed e =
        let t = number_0.0 e in
        let u = t.1.1.1.1 in
        rw (t.0, t.1.0, t.1.1.0, t.1.1.1.0, u.0, u.1.0, u.1.1.0, u.1.1.1)

    -- and answers what is found
    pub done_answer : last_write_number ≡ 0 → last_write_answer b address room ≡ done_of found
    done_answer e = ap (λ (t : Test). answer_by t found) (passed e)

    -- no more steps are told than are on hand, so that many can be taken back
    pub steps_most : last_write_number ≡ 0 → steps_of (last_write_answer b address room) ≤ machine.journal.on_hand
    steps_most e =
        rw (done_answer e) (change_most b.beside.ram b.beside.journal machine.journal.on_hand machine.journal.next_slot (place_of address))

    -- and no reason, done or refused
    pub never_a_reason : reason_of (last_write_answer b address room) ≡ 0
    never_a_reason = go (last_write_test b address room)
      where
        go : (t : Test) → reason_of (answer_by t found) ≡ 0
        go (Ok _) = no_reason found
        go (Err refusal) = refl

    refused_none : (last_write_number ≡ 0 → ⊥) → steps_of (last_write_answer b address room) ≡ 0
    refused_none h = go (last_write_test b address room) h
      where
        go : (t : Test) → (number_of (answer_by t found) ≡ 0 → ⊥) → steps_of (answer_by t found) ≡ 0
        go (Ok _) h = absurd (h (done_number found))
        go (Err refusal) h = refl

    -- done or refused, the answer fits in the 64 bits that it is packed in
    pub packed_fits : packed_of (last_write_answer b address room) < 2 ^ 64
    packed_fits = by (ℕ_discrete last_write_number 0)
      where
        by : Dec (last_write_number ≡ 0) → packed_of (last_write_answer b address room) < 2 ^ 64
        by (yes e) =
            let t = number_0.0 e in
            let journal = b.beside.journal in
            let sound = ring_sound journal machine.journal (image_mark b.image (length b.beside.paper) (length journal) t.1.1.1.0) in
            omega (arith, e, never_a_reason, steps_most e, sound.most, few_slots journal t.1.1.0)
        by (no h) = omega (arith, no_other, refused_none h, never_a_reason)

  -- the answer buffer before
  module _ (before : List ℕ) where
    abbrev number : ℕ
    number = last_write_number (length before)

    abbrev answer : Answer
    answer = last_write_answer b address (length before)

    abbrev after : List ℕ
    after = last_write_bytes b address before

    -- a refusal leaves every byte as it was, and reports no steps and no reason
    pub refused_same : (number ≡ 0 → ⊥) → (after ≡ before) × (steps_of answer ≡ 0) × (reason_of answer ≡ 0)
    refused_same h = go (last_write_test b address (length before)) h
      where
        go : (t : Test) → (number_of (answer_by t found) ≡ 0 → ⊥) →
            (bytes_by t (time_in b) found before ≡ before) × (steps_of (answer_by t found) ≡ 0) × (reason_of (answer_by t found) ≡ 0)
        go (Ok _) h = absurd (h (done_number found))
        go (Err refusal) h = (refl, refl, refl)

    -- a done one leaves four words, whatever was there
    pub done_bytes : number ≡ 0 → after ≡ flat word_bytes (answer_words (time_in b) found)
    done_bytes e = ap (λ (t : Test). bytes_by t (time_in b) found before) (passed (length before) e)

    -- none on hand: 0 steps, no reason, and 16 bytes of 0
    pub none_is_zeros : number ≡ 0 → found ≡ None → (steps_of answer ≡ 0) × (reason_of answer ≡ 0) × (after ≡ replicate 16 0)
    none_is_zeros e none = (
      ap steps_of (done_answer (length before) e) ∙ ap (λ (x : Option Change). steps_of (done_of x)) none,
      ap reason_of (done_answer (length before) e) ∙ ap (λ (x : Option Change). reason_of (done_of x)) none,
      done_bytes e ∙ ap (λ (x : Option Change). flat word_bytes (answer_words (time_in b) x)) none,
    )

    -- what two calls answer and leave that both keep the contract is the same
    pub one_answer : {r₁ r₂ : Answer} {after₁ after₂ : List ℕ} → LastWriteIs b address before r₁ after₁ → LastWriteIs b address before r₂ after₂ →
        (r₁ ≡ r₂) × (after₁ ≡ after₂)
    one_answer p q = (p.answer_is ∙ sym q.answer_is, p.bytes_is ∙ sym q.bytes_is)
