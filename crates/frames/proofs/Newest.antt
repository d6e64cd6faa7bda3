-- The newest step that changed a frame, counted from 1, 0 for none: the index says the same in clocks, and it is what a record keeps.
use Rattle.std.proofs.Common.{◌≡◌, ℕ, zero, suc, ◌+◌, ◌<◌, ◌≤◌, min, Bool, true, false, cond, ltb, List, [], ◌∷◌, length, get_or, take, sym, refl, ap, ◌∙◌, arith, le-ltb, lt-ltb, eq-eqb, ne_eqb, le-leb}
use lib.Arith.{lt_of_le-ne}
use borrow.Author.Tests.{lt-leb}
use Rattle.ring.specs.Slots.{next_slot, slot_back}
use Rattle.ring.proofs.Slots.{by_leb, back_below, back_back}
use Rattle.frames.specs.OnHand.{Touch, changes}
use Rattle.frames.specs.Afresh.{index_of}
use Rattle.frames.specs.Keep.{up_to, distance, restored, is_at}
use Rattle.std.proofs.Common.{Option, Some, None}
use Rattle.frames.proofs.Clocks.{back_none, apart, distance_back}

abbrev pub later : ℕ → ℕ
later zero = 0
later (suc k) = suc (suc k)

abbrev pub newest : List (List Touch) → ℕ → ℕ
newest [] f = 0
newest (s ∷ older) f = cond (changes s f) 1 (later (newest older f))

-- the entry that says the k-th newest step, from the newest's clock
abbrev pub entry_back : ℕ → ℕ → ℕ → Option ℕ
entry_back turn clock zero = None
entry_back turn clock (suc k) = Some (slot_back turn clock k)

-- ---- a number cut

pub up_to_in : (k d : ℕ) → d ≤ k → up_to k d ≡ d
up_to_in k d h = ap (λ (b : Bool). cond b d 0) (le-leb d k h)

pub up_to_out : (k d : ℕ) → k < d → up_to k d ≡ 0
up_to_out k d h = ap (λ (b : Bool). cond b d 0) (lt-leb d k h)

pub up_to_below : (k d : ℕ) → up_to k d ≤ k
up_to_below k d = by_leb d k (λ h. rw (up_to_in k d h) h) (λ h. rw (up_to_out k d h) (omega arith))

pub up_to_up_to : (a b d : ℕ) → up_to a (up_to b d) ≡ up_to (min a b) d
up_to_up_to a b d =
    by_leb d b
    (λ h. rw (up_to_in b d h)
    (by_leb d a
    (λ g. up_to_in a d g ∙ sym (up_to_in (min a b) d (omega arith)))
    (λ g. up_to_out a d g ∙ sym (up_to_out (min a b) d (omega arith)))))
    (λ h. rw (up_to_out b d h) (up_to_in a 0 (omega arith) ∙ sym (up_to_out (min a b) d (omega arith))))

-- ---- the newest

pub later_below : (k n : ℕ) → k ≤ n → later k ≤ suc n
later_below zero n h = omega arith
later_below (suc k) n h = omega arith

pub later_not_first : (k : ℕ) → later k ≡ 1 → ⊥
later_not_first zero e = omega arith
later_not_first (suc k) e = omega arith

pub newest_below : (steps : List (List Touch)) (f : ℕ) → newest steps f ≤ length steps
newest_below [] f = omega arith
newest_below (s ∷ older) f = go (changes s f) (newest_below older f)
  where
    go : (b : Bool) → newest older f ≤ length older → cond b 1 (later (newest older f)) ≤ suc (length older)
    go true h = omega arith
    go false h = later_below (newest older f) (length older) h

later_up_to : (n k : ℕ) → later (up_to n k) ≡ up_to (suc n) (later k)
later_up_to n zero = rw (up_to_in n 0 (omega arith)) (sym (up_to_in (suc n) 0 (omega arith)))
later_up_to n (suc k) =
    by_leb (suc k) n
    (λ h. rw (up_to_in n (suc k) h) (sym (up_to_in (suc n) (suc (suc k)) (omega arith))))
    (λ h. rw (up_to_out n (suc k) h) (sym (up_to_out (suc n) (suc (suc k)) (omega arith))))

-- of fewer steps: the same, or none
pub newest_take : (n : ℕ) (steps : List (List Touch)) (f : ℕ) → newest (take n steps) f ≡ up_to n (newest steps f)
newest_take zero steps f =
    by_leb (newest steps f) 0
    (λ h. let e : newest steps f ≡ 0 = omega arith in sym (rw e (up_to_in 0 0 (omega arith))))
    (λ h. sym (up_to_out 0 (newest steps f) h))
newest_take (suc n) [] f = sym (up_to_in (suc n) 0 (omega arith))
newest_take (suc n) (s ∷ older) f = go (changes s f) (newest_take n older f)
  where
    go : (b : Bool) → newest (take n older) f ≡ up_to n (newest older f) → cond b 1 (later (newest (take n older) f)) ≡ up_to (suc n) (cond b 1 (later (newest older f)))
    go true ih = sym (up_to_in (suc n) 1 (omega arith))
    go false ih = rw ih (later_up_to n (newest older f))

-- the step that it says did change the frame
pub newest_changes : (steps : List (List Touch)) (f k : ℕ) → newest steps f ≡ suc k → changes (get_or steps k []) f ≡ true
newest_changes [] f k e = absurd (omega arith)
newest_changes (s ∷ older) f k e = go (changes s f) refl e (newest_changes older f)
  where
    deeper : (d : ℕ) → newest older f ≡ d → later d ≡ suc k → ((j : ℕ) → newest older f ≡ suc j → changes (get_or older j []) f ≡ true) → changes (get_or (s ∷ older) k []) f ≡ true
    deeper zero eq e ih = absurd (omega arith)
    deeper (suc j) eq e ih =
        let q : k ≡ suc j = omega arith in
        rw q (ih j eq)

    go : (b : Bool) → changes s f ≡ b → cond b 1 (later (newest older f)) ≡ suc k → ((j : ℕ) → newest older f ≡ suc j → changes (get_or older j []) f ≡ true) → changes (get_or (s ∷ older) k []) f ≡ true
    go true c e ih = let q : k ≡ 0 = omega arith in rw q c
    go false c e ih = deeper (newest older f) refl e ih

-- ---- the index, by the newest

module _ (turn : ℕ) where
  pub entry_later : (clock k : ℕ) → clock < turn → k < turn → entry_back turn (slot_back turn clock 1) k ≡ entry_back turn clock (later k)
  entry_later clock zero small h = refl
  entry_later clock (suc k) small h =
      let e : 1 + k ≡ suc k = omega arith in
      ap Some (back_back turn clock 1 k small (omega arith) ∙ ap (slot_back turn clock) e)

  pub index_newest : (clock : ℕ) (steps : List (List Touch)) (f : ℕ) → clock < turn → length steps ≤ turn → index_of turn clock steps f ≡ entry_back turn clock (newest steps f)
  index_newest clock [] f small few = refl
  index_newest clock (s ∷ older) f small few =
      go (changes s f) (index_newest (slot_back turn clock 1) older f (back_below turn clock 1 small (omega arith)) (omega arith))
    where
      go : (b : Bool) → index_of turn (slot_back turn clock 1) older f ≡ entry_back turn (slot_back turn clock 1) (newest older f) →
          cond b (Some clock) (index_of turn (slot_back turn clock 1) older f) ≡ entry_back turn clock (cond b 1 (later (newest older f)))
      go true ih = ap Some (sym (back_none turn clock small))
      go false ih = ih ∙ entry_later clock (newest older f) small (omega (arith, newest_below older f))

  module _ (clock : ℕ) (small : clock < turn) where
    pub distance_newest : (k : ℕ) → k < turn → distance turn (next_slot turn clock) (entry_back turn clock k) ≡ k
    distance_newest zero h = refl
    distance_newest (suc k) h = distance_back turn clock small k h

    -- an entry of another step on hand is not this one's
    pub not_at : (k i : ℕ) → k ≤ turn → i < turn → (k ≡ suc i → ⊥) → is_at (slot_back turn clock i) (entry_back turn clock k) ≡ false
    not_at zero i h g other = refl
    not_at (suc k) i h g other =
        by_leb k i
        (λ l. ne_eqb (slot_back turn clock k) (slot_back turn clock i) (apart turn clock small k i (lt_of_le-ne l (λ e. other (ap suc e))) g))
        (λ l. ne_eqb (slot_back turn clock k) (slot_back turn clock i) (λ e. apart turn clock small i k l (omega arith) (sym e)))

    pub is_at_lem : (i : ℕ) → is_at (slot_back turn clock i) (entry_back turn clock (suc i)) ≡ true
    is_at_lem i = eq-eqb (slot_back turn clock i) (slot_back turn clock i) refl

    -- what a record that kept d gives back, with h on hand below it: the d-th newest of those, if it is one of them
    pub restored_newest : (h d : ℕ) → h < turn → restored turn clock (suc h) d ≡ entry_back turn (slot_back turn clock 1) (up_to h d)
    restored_newest h zero few = sym (rw (up_to_in h 0 (omega arith)))
    restored_newest h (suc d) few =
        let step : 1 + d ≡ suc d = omega arith in
        by_leb (suc d) h
        (λ l.
        let inside : ltb (suc d) (suc h) ≡ true = lt-ltb (suc d) (suc h) (omega arith) in
        rw (up_to_in h (suc d) l, inside, lt-ltb 0 (suc d) (omega arith))
        (ap Some (sym (back_back turn clock 1 d small (omega arith) ∙ ap (slot_back turn clock) step))))
        (λ l. rw (up_to_out h (suc d) l, le-ltb (suc d) (suc h) (omega arith), lt-ltb 0 (suc d) (omega arith)))
