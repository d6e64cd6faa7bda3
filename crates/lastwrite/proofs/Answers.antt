-- What the tests of last_write say, and what one that passed them leaves: over plain values, so that the walk of the code hands its facts over by name.
use Rattle.std.proofs.Common.{◌≡◌, ℕ, zero, suc, ◌+◌, ◌-◌, ◌/◌, ◌%◌, ◌^◌, ◌<◌, ◌≤◌, Bool, true, false, cond, ◌&&◌, eqb, ltb, leb, List, [], ◌∷◌, map, length, sym, refl, ap, ◌∙◌, subst, true≢false, arith, ltb-true, le-ltb, eqb-true, le-leb, leb-true}
use borrow.Author.Tests.{lt-leb}
use Rattle.word.specs.Lists.{flat}
use Rattle.word.specs.Big.{word_bytes}
use Rattle.word.specs.Number.{between}
use Rattle.word.proofs.Cond.{both}
use Rattle.ring.specs.Slots.{slot_back}
use Rattle.ring.specs.Back.{How, all_fit_core, done, too_far, bad_record}
use Rattle.ring.proofs.Back.{core_fits}
use Rattle.journal.specs.Journal.{slots_of}
use Rattle.memory.specs.Memory.{load_at}
use Rattle.clock.specs.Tick.{time_of}
use Rattle.board.specs.Places.{ram_base, spans}
use Rattle.frames.specs.Bytes.{whole}
use Rattle.state.specs.Layout.{machine_of}
use Rattle.state.specs.declared.machine.Machine.{Machine}
use Rattle.rules.specs.Rules.{keeps_rules}
use Rattle.step.specs.World.{world_in}
use Rattle.turn.specs.Buffers.{Beside, Buffers}
use Rattle.back.specs.Back as back
use Rattle.back.specs.Back.{no_roms, view_in, asked_of}
use Rattle.back.specs.declared.Fault.{Fault}
use Rattle.back.specs.declared.Fault.TheVariants.{TooFar, Bad}
use Rattle.back.proofs.Answers.{is_done}
use Rattle.back.proofs.Cored.{core_laws}
use Rattle.seek.specs.OnHand.{records_of}
use Rattle.seek.specs.Latest.{Write, Altered, Answers, scan}
use Rattle.seek.specs.Seek.{has_word, writes_of, last_change_of}
use Rattle.seek.specs.declared.Change.{Change}
use Rattle.seek.proofs.Latest.{scan_answers}
use Rattle.std.specs.Result.{result_and}
use Rattle.answer.specs.Lent.{index_fits, Test, passed}
use Rattle.answer.specs.declared.Refusal.{Refusal}
use Rattle.answer.specs.declared.Refusal.TheVariants.{BadRecord, Index, Word, Room}
use Rattle.std.specs.Prelude.{Option, Some, None, Ok, Err, is_ok}
use Rattle.answer.specs.Answer.{Answer}
use Rattle.backward.specs.Back.{beside_back_test, rule_test}
use Rattle.backward.proofs.Backing.{buffers_allowed, judged_is}
use Rattle.lastwrite.specs.LastWrite.{records_fit, word_fits, rest_test, asked_test, last_write_test, place_of, found_by, found_in, time_in, answer_words, answer_by, bytes_by, LastWriteIs, Fits, Counted, Leaves, TriedIs, RuledIs}

-- ---- row 11

module _ (ram address : ℕ) where
  abbrev rest : Bool → Bool
  rest low = (low && ltb (address - ram_base) ram) && eqb (address % 4) 0

  pub word_below : address < ram_base → false ≡ word_fits ram address
  word_below h = ap rest (sym (lt-leb ram_base address h))

  pub word_above : ram_base ≤ address → rest true ≡ word_fits ram address
  word_above h = ap rest (sym (le-leb ram_base address h))

  pub word_says : word_fits ram address ≡ true → (ram_base ≤ address) × (address - ram_base < ram) × (address % 4 ≡ 0)
  word_says e =
      let p = both (spans ram_base ram address) (eqb (address % 4) 0) e in
      let q = both (leb ram_base address) (ltb (address - ram_base) ram) p.0 in
      (leb-true ram_base address q.0, ltb-true (address - ram_base) ram q.1, eqb-true (address % 4) 0 p.1)

-- ---- row 8

abbrev is_far : How → Bool
is_far done = false
is_far too_far = true
is_far bad_record = false

module _ (m : Machine) (b : Beside) where
  abbrev hand : ℕ
  hand = m.journal.on_hand

  abbrev said : How
  said = asked_of hand m (length b.ram) (length b.paper) b.journal

  -- all that is on hand can be taken back exactly if every record is well formed
  asked_all : said ≡ cond (records_fit m b) done bad_record
  asked_all =
      let M = back.both no_roms in
      let n = slots_of b.journal in
      let next = m.journal.next_slot in
      let core : Bool = all_fit_core M n b.journal next hand (view_in m (length b.ram) (length b.paper)) in
      ap (λ (far : Bool). cond far too_far (cond core done bad_record)) (le-ltb hand hand (omega arith))
      ∙ ap (λ (fit : Bool). cond fit done bad_record) (sym (core_fits M n b.journal next (core_laws no_roms) (world_in m b.ram b.paper) hand))

  pub never_far : too_far ≡ said → ⊥
  never_far e = go (records_fit m b) (e ∙ asked_all)
    where
      go : (fit : Bool) → too_far ≡ cond fit done bad_record → ⊥
      go true e = true≢false (ap is_far e)
      go false e = true≢false (ap is_far e)

  pub records_bad : bad_record ≡ said → records_fit m b ≡ false
  records_bad e = go (records_fit m b) (e ∙ asked_all)
    where
      go : (fit : Bool) → bad_record ≡ cond fit done bad_record → fit ≡ false
      go true e = absurd (true≢false (sym (ap is_done e)))
      go false e = refl

  pub records_good : done ≡ said → records_fit m b ≡ true
  records_good e = go (records_fit m b) (e ∙ asked_all)
    where
      go : (fit : Bool) → done ≡ cond fit done bad_record → fit ≡ true
      go true e = refl
      go false e = absurd (true≢false (ap is_done e))

  module _ (address room : ℕ) where
    pub asked_bad : bad_record ≡ said → Err BadRecord ≡ asked_test m b address room
    unfolding asked_test
    asked_bad e = rw (records_bad e)

    -- by the fault that was found
    pub asked_fault : (fault : Fault) → back.how_of (Err fault) ≡ said → Err (back.refusal_of fault) ≡ asked_test m b address room
    asked_fault TooFar e = absurd (never_far e)
    asked_fault Bad e = asked_bad e

    pub asked_rest : done ≡ said → rest_test (length b.ram) (length b.index) address room ≡ asked_test m b address room
    unfolding asked_test
    asked_rest e = rw (records_good e)

    -- what it says that the tests were passed
    pub asked_says : asked_test m b address room ≡ passed →
        (records_fit m b ≡ true) × (index_fits (length b.ram) (length b.index) ≡ true) × (word_fits (length b.ram) address ≡ true) × (eqb room 16 ≡ true)
    unfolding asked_test rest_test
    asked_says e = go (records_fit m b) (index_fits (length b.ram) (length b.index)) (word_fits (length b.ram) address) (eqb room 16) (ap is_ok e)
      where
        go : (x y z w : Bool) → is_ok (cond x (cond y (cond z (cond w passed (Err Room)) (Err Word)) (Err Index)) (Err BadRecord)) ≡ true →
            (x ≡ true) × (y ≡ true) × (z ≡ true) × (w ≡ true)
        go true true true true e = (refl, refl, refl, refl)
        go true true true false e = absurd (true≢false (sym e))
        go true true false w e = absurd (true≢false (sym e))
        go true false z w e = absurd (true≢false (sym e))
        go false y z w e = absurd (true≢false (sym e))

    -- the place is a number of 32 bits, and four words have room
    pub asked_near : Fits b m → asked_test m b address room ≡ passed → (ram_base ≤ address) × (address < ram_base + 2 ^ 32)
    asked_near fits e =
        let w = word_says (length b.ram) address (asked_says e).2 in
        (w.0, omega (arith, w.0, w.1, fits.few_frames))

    pub asked_room : asked_test m b address room ≡ passed → room ≡ 16
    asked_room e = eqb-true room 16 (asked_says e).3

-- ---- the tests before

pub fits_is : (b : Buffers) {m : Machine} → beside_back_test b.beside ≡ passed →
    keeps_rules b.image (length b.beside.paper) (length b.beside.journal) ≡ true → m ≡ machine_of b.image → Fits b.beside m
fits_is b passed keeps is =
    let ram = length b.beside.ram in
    let a = buffers_allowed ram (length b.beside.paper) (length b.beside.journal) passed in
    let r = both (eqb (ram % 4096) 0) (between 1 4096 (ram / 4096)) a.0 in
    let f = both (leb 1 (ram / 4096)) (leb (ram / 4096) 4096) r.1 in
    record {
      judged = judged_is b passed keeps is;
      few_frames = omega (arith, eqb-true (ram % 4096) 0 r.0, leb-true (ram / 4096) 4096 f.1);
    }

-- ---- what is found

counted : (place word : ℕ) (steps : List (List Write)) (r : Option Change) → Answers place steps word r → Counted r
counted place word steps None h = tt
counted place word steps (Some c) h = go c.step c.old c.new h
  where
    go : (step old new : ℕ) → Altered place steps word step old new → 1 ≤ step
    go zero old new h = absurd h
    go (suc k) old new h = omega arith

pub found_counted : (m : Machine) (ram journal : List ℕ) (address : ℕ) → Counted (found_by m ram journal address)
unfolding last_change_of
found_counted m ram journal address =
    let place = place_of address in
    let steps = map writes_of (records_of journal m.journal.on_hand m.journal.next_slot) in
    go place steps (has_word ram place)
  where
    go : (place : ℕ) (steps : List (List Write)) (has : Bool) → Counted (cond has (scan place (load_at 4 ram place) 0 steps) None)
    go place steps true =
        let word = load_at 4 ram place in
        counted place word steps (scan place word 0 steps) (scan_answers place word steps)
    go place steps false = tt

pub counted_at : {found : Option Change} {c : Change} → found ≡ Some c → Counted found → 1 ≤ c.step
counted_at e h = subst Counted e h

pub words_at : (time : ℕ) (c : Change) (clock : ℕ) → clock ≡ slot_back whole time (c.step - 1) →
    clock / 2 ^ 32 ∷ clock % 2 ^ 32 ∷ c.old ∷ c.new ∷ [] ≡ answer_words time (Some c)
words_at time c clock e = ap (λ (x : ℕ). x / 2 ^ 32 ∷ x % 2 ^ 32 ∷ c.old ∷ c.new ∷ []) e

pub words_long : (time : ℕ) (found : Option Change) → length (flat word_bytes (answer_words time found)) ≡ 16
words_long time None = refl
words_long time (Some c) = refl

-- ---- what is left

module _ {t t' : Test} {time time' : ℕ} {found found' : Option Change} {before after : List ℕ} {r : Answer} where
  -- the same by equal tests, clocks and findings
  pub leaves_same : t ≡ t' → time ≡ time' → found ≡ found' → Leaves t time found before r after → Leaves t' time' found' before r after
  leaves_same p q s l =
      record {
        answer_is = l.answer_is ∙ (λ i. answer_by (p i) (s i));
        bytes_is = l.bytes_is ∙ (λ i. bytes_by (p i) (q i) (s i) before);
      }

pub leaves_all : {t : Test} {refusal : Refusal} (time : ℕ) (found : Option Change) (before : List ℕ) → t ≡ Err refusal → Leaves t time found before (Err refusal) before
leaves_all time found before e =
    record {
      answer_is = sym (ap (λ (x : Test). answer_by x found) e);
      bytes_is = sym (ap (λ (x : Test). bytes_by x time found before) e);
    }

module _ (b : Buffers) (address : ℕ) (before : List ℕ) where
  abbrev asked : Test
  asked = asked_test (machine_of b.image) b.beside address (length before)

  -- by row 5
  pub rules_failed : {refusal : Refusal} → rule_test b ≡ Err refusal → RuledIs b address before (Err refusal) before
  rules_failed e = leaves_all (time_in b) (found_in b address) before (ap (λ (t : Test). result_and t asked) e)

  pub rules_passed : {m : Machine} {r : Answer} {after : List ℕ} → rule_test b ≡ passed → m ≡ machine_of b.image →
      TriedIs m b.beside address before r after → RuledIs b address before r after
  rules_passed e is l =
      leaves_same
      (ap (λ (m : Machine). asked_test m b.beside address (length before)) is ∙ sym (ap (λ (t : Test). result_and t asked) e))
      (ap (λ (m : Machine). time_of m.board.clock) is)
      (ap (λ (m : Machine). found_by m b.beside.ram b.beside.journal address) is)
      l

  call_is : {r : Answer} {after : List ℕ} → Leaves (last_write_test b address (length before)) (time_in b) (found_in b address) before r after →
      LastWriteIs b address before r after
  call_is l = record { answer_is = l.answer_is; bytes_is = l.bytes_is }

  -- by rows 1, 3 and 4
  pub buffers_failed : {refusal : Refusal} → beside_back_test b.beside ≡ Err refusal → LastWriteIs b address before (Err refusal) before
  buffers_failed e = call_is (leaves_all (time_in b) (found_in b address) before (ap (λ (t : Test). result_and (result_and t (rule_test b)) asked) e))

  pub buffers_passed : {r : Answer} {after : List ℕ} → beside_back_test b.beside ≡ passed → RuledIs b address before r after → LastWriteIs b address before r after
  buffers_passed e l = call_is (leaves_same (sym (ap (λ (t : Test). result_and (result_and t (rule_test b)) asked) e)) refl refl l)
