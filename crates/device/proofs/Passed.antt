-- What the first n devices' ticks leave of a line: the devices passed have had their tick, the others are as they were; and so their pending bits.
use Prim.Native.Nat.{ℕ, zero, suc, ◌^◌, ◌≤◌, ◌<◌}
use mathlib.Core.Path.{◌≡◌, refl, sym, ◌∙◌}
use mathlib.Core.Logic.{◌≢◌}
use mathlib.Core.Bool.{Bool, true, false, cond, ◌||◌, false≢true}
use mathlib.Core.List.{List}
use native.Mathlib.Decide.{dec_lt}
use native.Mathlib.Omega.{arith}
use lib.ListN.{length, get_or, length-set}
use lib.Seq.{get_or-set_same, get_or-set_other}
use Rattle.word.specs.Map.{bit}
use Rattle.word.proofs.Maps.{bit_told, bit_other, with_small}
use Rattle.device.specs.Line.{pending_on, ticked_to, pending_to}

-- neither of two
pub neither : (a b : Bool) → (a || b) ≡ false → (a ≡ false) × (b ≡ false)
neither false b e = (refl, e)
neither true b e = absurd (false≢true (sym e))

-- ---- the map after one device's tick

on_other : (n m : ℕ) (done : Bool) (pending : ℕ) → m ≢ n → bit m (pending_on n done pending) ≡ bit m pending
on_other n m true pending ne = bit_other n m true pending ne
on_other n m false pending ne = refl

on_own : (n : ℕ) (done : Bool) (pending : ℕ) → bit n (pending_on n done pending) ≡ cond done true (bit n pending)
on_own n true pending = bit_told n true pending
on_own n false pending = refl

on_small : (n : ℕ) (done : Bool) (pending : ℕ) → n < 8 → pending < 2 ^ 8 → pending_on n done pending < 2 ^ 8
on_small n true pending h small = with_small n 8 true pending h small
on_small n false pending h small = small

module _ {D : Type 0} (none : D) (ticked : D → D) (line : List D) where
  -- the first n devices ticked
  abbrev to : ℕ → List D
  to n = ticked_to none ticked n line

  pub length_to : (n : ℕ) → length (to n) ≡ length line
  unfolding ticked_to
  length_to zero = refl
  length_to (suc n) = length-set (to n) n _ ∙ length_to n

  -- a device not passed yet is as it was
  pub not_passed : (n m : ℕ) → n ≤ m → get_or (to n) m none ≡ get_or line m none
  unfolding ticked_to
  not_passed zero m h = refl
  not_passed (suc n) m h = get_or-set_other (to n) n m _ none (λ e. omega arith) ∙ not_passed n m (omega arith)

  -- a device passed has had its tick
  pub passed : (n m : ℕ) → m < n → m < length line → get_or (to n) m none ≡ ticked (get_or line m none)
  unfolding ticked_to
  passed zero m h l = absurd (omega arith)
  passed (suc n) m h l =
      elim (dec_lt m n) [
        | yes lower ↦ get_or-set_other (to n) n m _ none (λ e. omega arith) ∙ passed n m lower l
        | no not_lower ↦
            let e : m ≡ n = omega arith in
            let inside : n < length (to n) = rw (length_to n, ← e) l in
            rw e (get_or-set_same (to n) n _ none inside ∙ rw (not_passed n n (omega arith)))
      ]

  module _ (finishes : D → Bool) (pending : ℕ) where
    abbrev map : ℕ → ℕ
    map n = pending_to none finishes ticked n line pending

    -- device n when its turn comes
    abbrev due : ℕ → D
    due n = get_or (to n) n none

    -- the pending bit of a device not passed is as it was, that of one passed is on where it finished
    pub pending_before : (n m : ℕ) → n ≤ m → bit m (map n) ≡ bit m pending
    unfolding pending_to
    pending_before zero m h = refl
    pending_before (suc n) m h = on_other n m (finishes (due n)) (map n) (λ e. omega arith) ∙ pending_before n m (omega arith)

    pub pending_passed : (n m : ℕ) → m < n → bit m (map n) ≡ cond (finishes (get_or line m none)) true (bit m pending)
    unfolding pending_to
    pending_passed zero m h = absurd (omega arith)
    pending_passed (suc n) m h =
        elim (dec_lt m n) [
          | yes lower ↦ on_other n m (finishes (due n)) (map n) (λ e. omega arith) ∙ pending_passed n m lower
          | no not_lower ↦
              let e : m ≡ n = omega arith in
              rw e (on_own n (finishes (due n)) (map n) ∙ rw (not_passed n n (omega arith), pending_before n n (omega arith)))
        ]

    pub pending_small : (n : ℕ) → n ≤ 8 → pending < 2 ^ 8 → map n < 2 ^ 8
    unfolding pending_to
    pending_small zero h small = small
    pending_small (suc n) h small = on_small n (finishes (due n)) (map n) (omega arith) (pending_small n (omega arith) small)
