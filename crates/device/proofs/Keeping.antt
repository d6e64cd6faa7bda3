-- A line keeps its rules over a tick and over a write, where each device keeps its own.
use Prim.Native.Nat.{ℕ, ◌-◌, ◌%◌, ◌^◌, ◌<◌}
use mathlib.Core.Path.{◌≡◌, refl, sym, subst, ◌∙◌}
use mathlib.Core.Bool.{Bool, true, false, ◌&&◌, cond}
use mathlib.Core.List.{List}
use native.Mathlib.Decide.{ℕ_discrete, dec_lt}
use native.Mathlib.Nat.{mod-eq_of_lt, lt_of_le_of_lt}
use native.Mathlib.Omega.{arith}
use borrow.Author.Tests.{eqb-true, eq-eqb}
use lib.Bits.{bit_and, and_mod, and_le_r, and_zero_r}
use lib.ListN.{length, get_or, set, length-set}
use lib.Seq.{get_or-set_same, get_or-set_other}
use Rattle.word.specs.Lists.{every}
use Rattle.word.specs.Map.{bit, with_bit}
use Rattle.word.specs.Mask.{within}
use Rattle.word.specs.Sizes.{devices}
use Rattle.word.proofs.BitLaws.{low_bit}
use Rattle.word.proofs.Cond.{both, and_true}
use Rattle.word.proofs.Maps.{bit_told, bit_other, bit_kept}
use Rattle.word.proofs.Within.{within_masked, masked_within}
use Rattle.device.specs.Line.{ticked_to, pending_to, keeps_at, Keeps}
use Rattle.device.proofs.Each.{all_hold, each_holds}
use Rattle.device.proofs.Passed.{length_to, passed, pending_before, pending_passed}

-- ---- the pending map stays within the installed map

-- what decides is the map's low 32 bits
low_word : (m x : ℕ) → bit_and x (0xFFFFFFFF - m) ≡ bit_and (x % 2 ^ 32) (0xFFFFFFFF - m)
low_word m x =
    let c = 0xFFFFFFFF - m in
    let small : c < 2 ^ 32 = omega arith in
    sym (mod-eq_of_lt (lt_of_le_of_lt (and_le_r x c) small)) ∙ and_mod x c 32 ∙ rw (mod-eq_of_lt small)

-- a map whose bits are each the old one's or an installed device's
pub still_owned : (m x y : ℕ) → within m x ≡ true →
    ((k : ℕ) → (bit k x ≡ true → bit k m ≡ true) → bit k y ≡ true → bit k m ≡ true) → within m y ≡ true
still_owned m x y e new =
    elim (dec_lt m (2 ^ 32)) [
      | yes word ↦
          let old = masked_within 32 m x word (eqb-true (bit_and x (0xFFFFFFFF - m)) 0 e) in
          eq-eqb (bit_and y (0xFFFFFFFF - m)) 0
          (low_word m y ∙ within_masked 32 m (y % 2 ^ 32) word (omega arith) (λ k h on. new k (old k h) (sym (low_bit 32 k y h) ∙ on)))
      | no beyond ↦
          let all : 0xFFFFFFFF - m ≡ 0 = omega arith in
          eq-eqb (bit_and y (0xFFFFFFFF - m)) 0 (rw (all, and_zero_r y))
    ]

module _ {D : Type 0} (none : D) (keeps : Bool → Bool → D → Bool) (installed : ℕ) where
  -- ---- the test says what the rules say

  pub tested : (line : List D) (pending : ℕ) → length line ≡ devices →
      (within installed pending && every devices (keeps_at none keeps installed line pending)) ≡ true → Keeps none keeps installed line pending
  tested line pending eight e =
      let h = both (within installed pending) (every devices (keeps_at none keeps installed line pending)) e in
      record { eight = eight; owned = h.0; each = each_holds devices (keeps_at none keeps installed line pending) h.1 }

  pub kept_tests : (line : List D) (pending : ℕ) → Keeps none keeps installed line pending →
      (within installed pending && every devices (keeps_at none keeps installed line pending)) ≡ true
  kept_tests line pending k = and_true k.owned (all_hold devices (keeps_at none keeps installed line pending) k.each)

  module _ (line : List D) (pending : ℕ) (k : Keeps none keeps installed line pending) where
    -- the pending map lies within the installed map
    pub pending_within : bit_and pending (0xFFFFFFFF - installed) ≡ 0
    pending_within = eqb-true (bit_and pending (0xFFFFFFFF - installed)) 0 k.owned

    -- ---- a tick: a device that finishes is installed, and each keeps its rules with pending on where it finishes

    module _ (finishes : D → Bool) (ticked : D → D)
        (here : (i on : Bool) (d : D) → keeps i on d ≡ true → finishes d ≡ true → i ≡ true)
        (stays : (i on : Bool) (d : D) → keeps i on d ≡ true → keeps i (cond (finishes d) true on) (ticked d) ≡ true)
      where
        -- a bit that is on after the tick was on before, or its device finished
        ticked_owned : (n : ℕ) → (bit n pending ≡ true → bit n installed ≡ true) → bit n (pending_to none finishes ticked devices line pending) ≡ true → bit n installed ≡ true
        ticked_owned n was on =
            elim (dec_lt n 8) [
              | yes low ↦ go low (finishes (get_or line n none)) refl (sym (pending_passed none ticked line finishes pending 8 n low) ∙ on)
              | no high ↦ was (sym (pending_before none ticked line finishes pending 8 n (omega arith)) ∙ on)
            ]
          where
            go : n < 8 → (done : Bool) → finishes (get_or line n none) ≡ done → cond done true (bit n pending) ≡ true → bit n installed ≡ true
            go low true e on = here (bit n installed) (bit n pending) (get_or line n none) (k.each n low) e
            go low false e on = was on

        pub tick_keeps : Keeps none keeps installed (ticked_to none ticked devices line) (pending_to none finishes ticked devices line pending)
        tick_keeps = record {
          eight = length_to none ticked line 8 ∙ k.eight;
          owned = still_owned installed pending (pending_to none finishes ticked devices line pending) k.owned ticked_owned;
          each = λ n h.
              let inside : n < length line = rw k.eight h in
              rw (passed none ticked line 8 n h inside, pending_passed none ticked line finishes pending 8 n h)
              (stays (bit n installed) (bit n pending) (get_or line n none) (k.each n h));
        }

    -- ---- a write: an installed device and its pending bit anew, the others as they were

    module _ (n : ℕ) (in_line : n < 8) (d : D) (here : bit n installed ≡ true) where
      pub one_anew : (on : Bool) → keeps (bit n installed) on d ≡ true → Keeps none keeps installed (set line n d) (with_bit n on pending)
      one_anew on h = record {
        eight = length-set line n d ∙ k.eight;
        owned = still_owned installed pending (with_bit n on pending) k.owned (λ m was now. bits m was now (ℕ_discrete m n));
        each = λ m l. by m l (ℕ_discrete m n);
      }
        where
          bits : (m : ℕ) → (bit m pending ≡ true → bit m installed ≡ true) → bit m (with_bit n on pending) ≡ true → Dec (m ≡ n) → bit m installed ≡ true
          bits m was now (yes e) = rw e here
          bits m was now (no ne) = was (sym (bit_other n m on pending ne) ∙ now)

          by : (m : ℕ) → m < 8 → Dec (m ≡ n) → keeps (bit m installed) (bit m (with_bit n on pending)) (get_or (set line n d) m none) ≡ true
          by m l (yes e) =
              let inside : n < length line = rw k.eight in_line in
              rw (e, bit_told n on pending, get_or-set_same line n d none inside) h
          by m l (no ne) = rw (bit_other n m on pending ne, get_or-set_other line n m d none ne) (k.each m l)

      -- with its pending bit as it was
      pub same_anew : keeps (bit n installed) (bit n pending) d ≡ true → Keeps none keeps installed (set line n d) pending
      same_anew h = subst (λ (map : ℕ). Keeps none keeps installed (set line n d) map) (bit_kept n pending) (one_anew (bit n pending) h)
