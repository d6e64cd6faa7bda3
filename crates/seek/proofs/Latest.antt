-- THE THEOREM OF THE QUESTION: the scan answers it, and there is one answer.
use Prim.Native.Nat.{ℕ, zero, suc, ◌+◌, ◌≤◌, ◌<◌}
use mathlib.Core.Path.{◌≡◌, refl, sym, ap, subst, ◌∙◌}
use mathlib.Core.Logic.{◌≢◌}
use mathlib.Core.Bool.{Bool, true, false, cond}
use mathlib.Core.List.{List, [], ◌∷◌}
use native.Mathlib.Omega.{arith}
use native.Mathlib.Nat.{suc-add, zero-add, add-zero, add-suc}
use native.Mathlib.Decide.{ℕ_discrete}
use lib.ListN.{length, get_or, drop, drop_of_length-le}
use lib.Seq.{drop-cons}
use lib.Dec.{eqb}
use borrow.Author.Tests.{eqb-true, eqb-false, eq-eqb, ne_eqb}
use Rattle.ring.proofs.Slots.{by_leb}
use Rattle.std.specs.Prelude.{Option, Some, None}
use Rattle.seek.specs.declared.Change.{Change}
use Rattle.seek.specs.Latest.{Write, word_before, change_of, word_back, Left, Last, Altered, Answers, scan}

module _ (place word : ℕ) where
  -- what the scan answers, j records passed
  abbrev Passed : ℕ → List (List Write) → Option Change → Type 0
  Passed j steps None = Answers place steps word None
  Passed j steps (Some c) = (k : ℕ) × (c.step ≡ suc (j + k)) × Last place steps word k c.old c.new

  module _ (s : List Write) (older : List (List Write)) (same : word_before place s word ≡ word) where
    -- one more step, which left the word: what holds of the older ones
    back_same : (k : ℕ) → word_back place (s ∷ older) word (suc k) ≡ word_back place older word k
    back_same k = ap (λ (w : ℕ). word_back place older w k) same

    left_more : (k : ℕ) → ((j : ℕ) → suc j ≡ k → Left place older word j) → Left place (s ∷ older) word k
    left_more zero h = same
    left_more (suc k) h = back_same (suc k) ∙ h k refl ∙ sym (back_same k)

    last_more : (k old new : ℕ) → Last place older word k old new → Last place (s ∷ older) word (suc k) old new
    last_more k old new h =
        record {
          within = omega (arith, h.within);
          before = h.before ∙ sym (back_same (suc k));
          after = h.after ∙ sym (back_same k);
          differ = h.differ;
          newer = λ j l. left_more j (λ i e. h.newer i (omega arith));
        }

    passed_more : (j : ℕ) (r : Option Change) → Passed (suc j) older r → Passed j (s ∷ older) r
    passed_more j None h = λ k l. left_more k (λ i e. h i (omega arith))
    passed_more j (Some c) h =
        (suc h.0, h.1 ∙ ap suc (suc-add j h.0 ∙ sym (add-suc j h.0)), last_more h.0 c.old c.new h.2)

  passed_here : (j : ℕ) (s : List Write) (older : List (List Write)) → word_before place s word ≢ word → Passed j (s ∷ older) (Some (change_of (suc j) (word_before place s word) word))
  passed_here j s older other = (
    0,
    ap suc (sym (add-zero j)),
    record {
      within = omega arith;
      before = refl;
      after = refl;
      differ = other;
      newer = λ i l. absurd (omega arith);
    },
  )

  scan_passed : (j : ℕ) (steps : List (List Write)) → Passed j steps (scan place word j steps)
  scan_passed j [] = λ k l. absurd (omega arith)
  scan_passed j (s ∷ older) = go (eqb (word_before place s word) word) refl (scan_passed (suc j) older)
    where
      go : (b : Bool) → eqb (word_before place s word) word ≡ b → Passed (suc j) older (scan place word (suc j) older) →
          Passed j (s ∷ older) (cond b (scan place word (suc j) older) (Some (change_of (suc j) (word_before place s word) word)))
      go true e ih = passed_more s older (eqb-true (word_before place s word) word e) j (scan place word (suc j) older) ih
      go false e ih = passed_here j s older (eqb-false (word_before place s word) word e)

  module _ (steps : List (List Write)) where
    answers_of : (r : Option Change) → Passed 0 steps r → Answers place steps word r
    answers_of None h = h
    answers_of (Some c) h =
        subst (λ (i : ℕ). Altered place steps word i c.old c.new) (sym (h.1 ∙ ap suc (zero-add h.0))) h.2

    -- the scan answers
    pub scan_answers : Answers place steps word (scan place word 0 steps)
    scan_answers = answers_of (scan place word 0 steps) (scan_passed 0 steps)

    -- ---- there is one answer

    not_left : (k old new : ℕ) → Last place steps word k old new → Left place steps word k → ⊥
    not_left k old new h same = h.differ (h.before ∙ same ∙ sym h.after)

    last_one : (k old new k' old' new' : ℕ) → Last place steps word k old new → Last place steps word k' old' new' →
        change_of (suc k) old new ≡ change_of (suc k') old' new'
    last_one k old new k' old' new' h h' =
        elim (ℕ_discrete k k') [
          | yes e ↦
              let o : old ≡ old' = h.before ∙ ap (λ (i : ℕ). word_back place steps word (suc i)) e ∙ sym h'.before in
              let w : new ≡ new' = h.after ∙ ap (word_back place steps word) e ∙ sym h'.after in
              (λ i. change_of (suc (e i)) (o i) (w i))
          | no e ↦
              by_leb k k'
              (λ l. absurd (not_left k old new h (h'.newer k (omega arith))))
              (λ l. absurd (not_left k' old' new' h' (h.newer k' l)))
        ]

    not_none : (i old new : ℕ) → Altered place steps word i old new → Answers place steps word None → ⊥
    not_none zero old new h none = h
    not_none (suc k) old new h none = not_left k old new h (none k h.within)

    change_one : (i old new i' old' new' : ℕ) → Altered place steps word i old new → Altered place steps word i' old' new' →
        change_of i old new ≡ change_of i' old' new'
    change_one zero old new i' old' new' h h' = absurd h
    change_one (suc k) old new zero old' new' h h' = absurd h'
    change_one (suc k) old new (suc k') old' new' h h' = last_one k old new k' old' new' h h'

    pub one_answer : (r r' : Option Change) → Answers place steps word r → Answers place steps word r' → r ≡ r'
    one_answer None None h h' = refl
    one_answer None (Some c) h h' = absurd (not_none c.step c.old c.new h' h)
    one_answer (Some c) None h h' = absurd (not_none c.step c.old c.new h h')
    one_answer (Some c) (Some c') h h' = ap Some (change_one c.step c.old c.new c'.step c'.old c'.new h h')

    -- nothing exactly if every step on hand left the word
    pub nothing_if : Answers place steps word None → scan place word 0 steps ≡ None
    nothing_if h = one_answer (scan place word 0 steps) None scan_answers h

    pub nothing_only_if : scan place word 0 steps ≡ None → Answers place steps word None
    nothing_only_if e = subst (Answers place steps word) e scan_answers

    -- ---- for a loop with j records passed

    pub scan_ends : (j : ℕ) → length steps ≤ j → scan place word j (drop j steps) ≡ None
    scan_ends j h = ap (scan place word j) (drop_of_length-le steps h)

    pub scan_goes : (j : ℕ) → j < length steps → word_before place (get_or steps j []) word ≡ word →
        scan place word j (drop j steps) ≡ scan place word (suc j) (drop (suc j) steps)
    scan_goes j h e =
        ap (scan place word j) (drop-cons steps j [] h)
        ∙ ap (λ (b : Bool). cond b (scan place word (suc j) (drop (suc j) steps)) (Some (change_of (suc j) (word_before place (get_or steps j []) word) word)))
        (eq-eqb (word_before place (get_or steps j []) word) word e)

    pub scan_stops : (j : ℕ) → j < length steps → word_before place (get_or steps j []) word ≢ word →
        scan place word j (drop j steps) ≡ Some (change_of (suc j) (word_before place (get_or steps j []) word) word)
    scan_stops j h e =
        ap (scan place word j) (drop-cons steps j [] h)
        ∙ ap (λ (b : Bool). cond b (scan place word (suc j) (drop (suc j) steps)) (Some (change_of (suc j) (word_before place (get_or steps j []) word) word)))
        (ne_eqb (word_before place (get_or steps j []) word) word e)

-- ---- one more step taken back, for a machine whose states are undone from the newest record on

pub back_more : (place word : ℕ) (steps : List (List Write)) (k : ℕ) → k < length steps →
    word_back place steps word (suc k) ≡ word_before place (get_or steps k []) (word_back place steps word k)
back_more place word [] k h = absurd (omega arith)
back_more place word (s ∷ older) zero h = refl
back_more place word (s ∷ older) (suc k) h = back_more place (word_before place s word) older k (omega arith)
