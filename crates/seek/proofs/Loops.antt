-- What the loops keep: the answer is that of the records that are left.
use Prim.Native.Nat.{ℕ, suc, ◌+◌, ◌-◌, ◌≤◌, ◌<◌}
use native.Mathlib.Omega.{arith}
use native.Mathlib.Numerals.{add-one}
use mathlib.Core.Path.{◌≡◌, refl, sym, ap, ◌∙◌}
use mathlib.Core.Logic.{◌≢◌}
use mathlib.Core.List.{List, [], map}
use lib.ListN.{length, get_or, drop}
use Rattle.seek.specs.OnHand.{kth_of, held_of}
use Rattle.seek.specs.Latest.{Write, word_before, change_of, scan}
use Rattle.seek.specs.Pcs.{newest, oldest}
use Rattle.seek.specs.Seek.{writes_of, pc_of}
use Rattle.std.specs.Prelude.{Some, None}
use Rattle.seek.proofs.OnHand.{held_long, held_at}
use Rattle.seek.proofs.Latest.{scan_goes, scan_stops, scan_ends}
use Rattle.seek.proofs.Pcs.{newest_goes, newest_stops, newest_ends, oldest_goes, oldest_stops}

module _ (journal : List ℕ) (hand next : ℕ) where
  -- ---- the newest that changed a word: k records are passed

  abbrev steps : List (List Write)
  steps = map writes_of (held_of journal hand next)

  pub record Scanned (place word k : ℕ) : Type 0 where
    pub within : k ≤ hand
    pub rest : scan place word k (drop k steps) ≡ scan place word 0 steps

  pub scanned_start : (place word : ℕ) → Scanned place word 0
  scanned_start place word = record { within = omega arith; rest = refl }

  module _ {place word k : ℕ} (h : Scanned place word k) where
    pub scanned_ends : hand ≤ k → None ≡ scan place word 0 steps
    scanned_ends past = sym (scan_ends place word steps k (omega (arith, held_long writes_of journal hand next))) ∙ h.rest

    module _ (left : k < hand) (slot : List ℕ) (at : slot ≡ kth_of journal next (k + 1)) (old : ℕ) (is : old ≡ word_before place (writes_of slot) word) where
      low : k < length steps
      low = omega (arith, held_long writes_of journal hand next)

      before : word_before place (get_or steps k []) word ≡ old
      before =
          ap (λ (ws : List Write). word_before place ws word)
          (held_at writes_of journal hand next k [] left
          ∙ ap (λ (i : ℕ). writes_of (kth_of journal next i)) (sym (add-one k))
          ∙ ap writes_of (sym at))
          ∙ sym is

      pub scanned_more : old ≡ word → Scanned place word (k + 1)
      scanned_more same =
          record {
            within = omega arith;
            rest =
                ap (λ (i : ℕ). scan place word i (drop i steps)) (add-one k)
                ∙ sym (scan_goes place word steps k low (before ∙ same))
                ∙ h.rest;
          }

      pub scanned_stops : old ≢ word → Some (change_of (k + 1) old word) ≡ scan place word 0 steps
      scanned_stops other =
          ap (λ (i : ℕ). Some (change_of i old word)) (add-one k)
          ∙ ap (λ (w : ℕ). Some (change_of (suc k) w word)) (sym before)
          ∙ sym (scan_stops place word steps k low (λ e. other (sym before ∙ e)))
          ∙ h.rest

  -- ---- the newest at a PC: k records are passed

  abbrev pcs : List ℕ
  pcs = map pc_of (held_of journal hand next)

  pub record Passed (pc k : ℕ) : Type 0 where
    pub within : k ≤ hand
    pub rest : newest pc k (drop k pcs) ≡ newest pc 0 pcs

  pub passed_start : (pc : ℕ) → Passed pc 0
  passed_start pc = record { within = omega arith; rest = refl }

  pc_at : (k : ℕ) → k < hand → get_or pcs k 0 ≡ pc_of (kth_of journal next (k + 1))
  pc_at k left = held_at pc_of journal hand next k 0 left ∙ ap (λ (i : ℕ). pc_of (kth_of journal next i)) (sym (add-one k))

  module _ {pc k : ℕ} (h : Passed pc k) where
    pub passed_ends : hand ≤ k → None ≡ newest pc 0 pcs
    passed_ends past = sym (newest_ends pc pcs k (omega (arith, held_long pc_of journal hand next))) ∙ h.rest

    module _ (left : k < hand) (p : ℕ) (is : p ≡ pc_of (kth_of journal next (k + 1))) where
      few : k < length pcs
      few = omega (arith, held_long pc_of journal hand next)

      pub passed_more : p ≢ pc → Passed pc (k + 1)
      passed_more other =
          record {
            within = omega arith;
            rest =
                ap (λ (i : ℕ). newest pc i (drop i pcs)) (add-one k)
                ∙ sym (newest_goes pc pcs k few (λ e. other (is ∙ sym (pc_at k left) ∙ e)))
                ∙ h.rest;
          }

      pub passed_stops : p ≡ pc → Some (k + 1) ≡ newest pc 0 pcs
      passed_stops same = ap Some (add-one k) ∙ sym (newest_stops pc pcs k few (pc_at k left ∙ sym is ∙ same)) ∙ h.rest

  -- ---- the oldest at a PC: k records are left

  pub record Remaining (pc k : ℕ) : Type 0 where
    pub within : k ≤ hand
    pub rest : oldest pc pcs k ≡ oldest pc pcs hand

  pub remaining_start : (pc : ℕ) → Remaining pc hand
  remaining_start pc = record { within = omega arith; rest = refl }

  pub remaining_ends : {pc k : ℕ} → Remaining pc k → k ≤ 0 → None ≡ oldest pc pcs hand
  remaining_ends {pc} {k} h past =
      let none : k ≡ 0 = omega arith in
      ap (oldest pc pcs) (sym none) ∙ h.rest

  module _ {pc k : ℕ} (h : Remaining pc k) (some : 0 < k) (p : ℕ) (is : p ≡ pc_of (kth_of journal next (k - 1 + 1))) where
    one_more : suc (k - 1) ≡ k
    one_more = omega arith

    here : get_or pcs (k - 1) 0 ≡ p
    here =
        held_at pc_of journal hand next (k - 1) 0 (omega (arith, h.within))
        ∙ ap (λ (i : ℕ). pc_of (kth_of journal next i)) (sym (add-one (k - 1)))
        ∙ sym is

    pub remaining_more : p ≢ pc → Remaining pc (k - 1)
    remaining_more other =
        record {
          within = omega (arith, h.within);
          rest = sym (oldest_goes pc pcs (k - 1) (λ e. other (sym here ∙ e))) ∙ ap (oldest pc pcs) one_more ∙ h.rest;
        }

    pub remaining_stops : p ≡ pc → Some (k - 1 + 1) ≡ oldest pc pcs hand
    remaining_stops same =
        ap Some (add-one (k - 1)) ∙ sym (oldest_stops pc pcs (k - 1) (here ∙ same)) ∙ ap (oldest pc pcs) one_more ∙ h.rest
