-- The newest and the oldest step at a PC are what is asked for, and there is one of each.
use Prim.Native.Nat.{ℕ, zero, suc, ◌+◌, ◌≤◌, ◌<◌}
use mathlib.Core.Path.{◌≡◌, refl, sym, ap, subst, ◌∙◌}
use mathlib.Core.Logic.{◌≢◌}
use mathlib.Core.Bool.{Bool, true, false, cond}
use mathlib.Core.List.{List, [], ◌∷◌}
use native.Mathlib.Omega.{arith}
use native.Mathlib.Nat.{suc-add, zero-add, add-zero, add-suc}
use native.Mathlib.Decide.{ℕ_discrete}
use lib.ListN.{length, get_or, drop, drop_of_length-le}
use lib.Seq.{drop-cons}
use lib.Dec.{eqb}
use borrow.Author.Tests.{eqb-true, eqb-false, eq-eqb, ne_eqb}
use Rattle.ring.proofs.Slots.{by_leb}
use Rattle.seek.specs.Pcs.{newest, oldest, First, Last, Answers}
use Rattle.std.specs.Prelude.{Option, Some, None}

module _ (pc : ℕ) (pcs : List ℕ) where
  -- ---- for a loop from the newest on, with j passed

  pub newest_ends : (j : ℕ) → length pcs ≤ j → newest pc j (drop j pcs) ≡ None
  newest_ends j h = ap (newest pc j) (drop_of_length-le pcs h)

  pub newest_goes : (j : ℕ) → j < length pcs → get_or pcs j 0 ≢ pc → newest pc j (drop j pcs) ≡ newest pc (suc j) (drop (suc j) pcs)
  newest_goes j h e =
      ap (newest pc j) (drop-cons pcs j 0 h)
      ∙ ap (λ (b : Bool). cond b (Some (suc j)) (newest pc (suc j) (drop (suc j) pcs))) (ne_eqb (get_or pcs j 0) pc e)

  pub newest_stops : (j : ℕ) → j < length pcs → get_or pcs j 0 ≡ pc → newest pc j (drop j pcs) ≡ Some (suc j)
  newest_stops j h e =
      ap (newest pc j) (drop-cons pcs j 0 h)
      ∙ ap (λ (b : Bool). cond b (Some (suc j)) (newest pc (suc j) (drop (suc j) pcs))) (eq-eqb (get_or pcs j 0) pc e)

  -- ---- for a loop from the oldest on, with k left

  pub oldest_goes : (k : ℕ) → get_or pcs k 0 ≢ pc → oldest pc pcs (suc k) ≡ oldest pc pcs k
  oldest_goes k e = ap (λ (b : Bool). cond b (Some (suc k)) (oldest pc pcs k)) (ne_eqb (get_or pcs k 0) pc e)

  pub oldest_stops : (k : ℕ) → get_or pcs k 0 ≡ pc → oldest pc pcs (suc k) ≡ Some (suc k)
  oldest_stops k e = ap (λ (b : Bool). cond b (Some (suc k)) (oldest pc pcs k)) (eq-eqb (get_or pcs k 0) pc e)

-- ---- they are what is asked for

module _ (pc : ℕ) where
  -- what `newest` answers, j steps passed
  abbrev Passed : ℕ → List ℕ → Option ℕ → Type 0
  Passed j pcs None = Answers First pc pcs None
  Passed j pcs (Some i) = (k : ℕ) × (i ≡ suc (j + k)) × First pc pcs k

  module _ (p : ℕ) (older : List ℕ) (other : p ≢ pc) where
    not_newer : (k : ℕ) → ((j : ℕ) → suc j ≡ k → get_or older j 0 ≢ pc) → get_or (p ∷ older) k 0 ≢ pc
    not_newer zero h = other
    not_newer (suc k) h = h k refl

    passed_more : (j : ℕ) (r : Option ℕ) → Passed (suc j) older r → Passed j (p ∷ older) r
    passed_more j None h = λ k l. not_newer k (λ i e. h i (omega arith))
    passed_more j (Some i) h = (
      suc h.0,
      h.1 ∙ ap suc (suc-add j h.0 ∙ sym (add-suc j h.0)),
      record {
        within = omega (arith, h.2.within);
        here = h.2.here;
        newer = λ k l. not_newer k (λ i e. h.2.newer i (omega arith));
      },
    )

  newest_passed : (j : ℕ) (pcs : List ℕ) → Passed j pcs (newest pc j pcs)
  newest_passed j [] = λ k l. absurd (omega arith)
  newest_passed j (p ∷ older) = go (eqb p pc) refl (newest_passed (suc j) older)
    where
      go : (b : Bool) → eqb p pc ≡ b → Passed (suc j) older (newest pc (suc j) older) → Passed j (p ∷ older) (cond b (Some (suc j)) (newest pc (suc j) older))
      go true e ih = (
        0,
        ap suc (sym (add-zero j)),
        record { within = omega arith; here = eqb-true p pc e; newer = λ k l. absurd (omega arith) },
      )
      go false e ih = passed_more p older (eqb-false p pc e) j (newest pc (suc j) older) ih

  module _ (pcs : List ℕ) where
    newest_of : (r : Option ℕ) → Passed 0 pcs r → Answers First pc pcs r
    newest_of None h = h
    newest_of (Some i) h = subst (λ (i : ℕ). Answers First pc pcs (Some i)) (sym (h.1 ∙ ap suc (zero-add h.0))) h.2

    pub newest_answers : Answers First pc pcs (newest pc 0 pcs)
    newest_answers = newest_of (newest pc 0 pcs) (newest_passed 0 pcs)

    -- what `oldest` answers, of the k newest
    abbrev Among : ℕ → Option ℕ → Type 0
    Among k None = (i : ℕ) → i < k → get_or pcs i 0 ≢ pc
    Among k (Some zero) = ⊥
    Among k (Some (suc i)) = (i < k) × (get_or pcs i 0 ≡ pc) × ((j : ℕ) → i < j → j < k → get_or pcs j 0 ≢ pc)

    among_more : (k : ℕ) → get_or pcs k 0 ≢ pc → (r : Option ℕ) → Among k r → Among (suc k) r
    among_more k other None h = λ i l. all i l
      where
        all : (i : ℕ) → i < suc k → get_or pcs i 0 ≢ pc
        all i l = elim (ℕ_discrete i k) [ yes e ↦ λ q. other (ap (λ (n : ℕ). get_or pcs n 0) (sym e) ∙ q) | no e ↦ h i (omega arith) ]
    among_more k other (Some zero) h = h
    among_more k other (Some (suc i)) h = (omega (arith, h.0), h.1, λ j above below. last j above below)
      where
        last : (j : ℕ) → i < j → j < suc k → get_or pcs j 0 ≢ pc
        last j above below = elim (ℕ_discrete j k) [ yes e ↦ λ q. other (ap (λ (n : ℕ). get_or pcs n 0) (sym e) ∙ q) | no e ↦ h.2 j above (omega arith) ]

    oldest_among : (k : ℕ) → Among k (oldest pc pcs k)
    oldest_among zero = λ i l. absurd (omega arith)
    oldest_among (suc k) = go (eqb (get_or pcs k 0) pc) refl (oldest_among k)
      where
        go : (b : Bool) → eqb (get_or pcs k 0) pc ≡ b → Among k (oldest pc pcs k) → Among (suc k) (cond b (Some (suc k)) (oldest pc pcs k))
        go true e ih = (omega arith, eqb-true (get_or pcs k 0) pc e, λ j above below. absurd (omega arith))
        go false e ih = among_more k (eqb-false (get_or pcs k 0) pc e) (oldest pc pcs k) ih

    oldest_of : (r : Option ℕ) → Among (length pcs) r → Answers Last pc pcs r
    oldest_of None h = h
    oldest_of (Some zero) h = h
    oldest_of (Some (suc i)) h = record { within = h.0; here = h.1; older = h.2 }

    pub oldest_answers : Answers Last pc pcs (oldest pc pcs (length pcs))
    oldest_answers = oldest_of (oldest pc pcs (length pcs)) (oldest_among (length pcs))

    -- ---- and there is one answer

    one_first : (k k' : ℕ) → First pc pcs k → First pc pcs k' → Some (suc k) ≡ Some (suc k')
    one_first k k' h h' =
        elim (ℕ_discrete k k') [
          | yes e ↦ ap (λ (i : ℕ). Some (suc i)) e
          | no e ↦
              by_leb k k'
              (λ l. absurd (h'.newer k (omega arith) h.here))
              (λ l. absurd (h.newer k' l h'.here))
        ]

    one_last : (k k' : ℕ) → Last pc pcs k → Last pc pcs k' → Some (suc k) ≡ Some (suc k')
    one_last k k' h h' =
        elim (ℕ_discrete k k') [
          | yes e ↦ ap (λ (i : ℕ). Some (suc i)) e
          | no e ↦
              by_leb k k'
              (λ l. absurd (h.older k' (omega arith) h'.within h'.here))
              (λ l. absurd (h'.older k l h.within h.here))
        ]

    module _ (Asked : ℕ → List ℕ → ℕ → Type 0) (is : (k : ℕ) → Asked pc pcs k → (k < length pcs) × (get_or pcs k 0 ≡ pc))
        (one : (k k' : ℕ) → Asked pc pcs k → Asked pc pcs k' → Some (suc k) ≡ Some (suc k')) where
      one_answer : (r r' : Option ℕ) → Answers Asked pc pcs r → Answers Asked pc pcs r' → r ≡ r'
      one_answer None None h h' = refl
      one_answer None (Some zero) h h' = absurd h'
      one_answer None (Some (suc k)) h h' = absurd (h k (is k h').0 (is k h').1)
      one_answer (Some zero) r' h h' = absurd h
      one_answer (Some (suc k)) None h h' = absurd (h' k (is k h).0 (is k h).1)
      one_answer (Some (suc k)) (Some zero) h h' = absurd h'
      one_answer (Some (suc k)) (Some (suc k')) h h' = one k k' h h'

    pub one_newest : (r r' : Option ℕ) → Answers First pc pcs r → Answers First pc pcs r' → r ≡ r'
    one_newest = one_answer First (λ k h. (h.within, h.here)) one_first

    pub one_oldest : (r r' : Option ℕ) → Answers Last pc pcs r → Answers Last pc pcs r' → r ≡ r'
    one_oldest = one_answer Last (λ k h. (h.within, h.here)) one_last
