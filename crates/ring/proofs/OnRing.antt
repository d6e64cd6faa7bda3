-- The records on hand of a ring, the newest first, as a list: a record written goes in front and pushes out what n slots do not hold, and those given up leave
-- the front.
use Prim.Native.Nat.{ℕ, zero, suc, ◌+◌, ◌-◌, ◌*◌, ◌≤◌, ◌<◌, min}
use mathlib.Core.Path.{◌≡◌, refl, sym, ap, ◌∙◌}
use mathlib.Core.List.{List, [], ◌∷◌}
use native.Mathlib.Omega.{arith}
use native.Mathlib.Nat.{sub-zero, add-suc}
use lib.ListN.{length, take, drop, get_or, length-take, length-drop}
use lib.Seq.{get_or-take, get_or-drop, ext_get_or}
use Rattle.word.specs.Lists.{tabulate}
use Rattle.word.proofs.Lists.{length_tabulate, get_d_tabulate}
use Rattle.ring.specs.Slots.{Ring, records_in, Sound, slot, put, next_slot, slot_back, written, lowered}
use Rattle.ring.proofs.Slots.{back_on, back_round, back_next, back_back, back_other, slot_same, slot_other, written_as, written_none}

module _ (size n : ℕ) (g : Ring) where
  pub records_length : length (records_in size n g) ≡ g.hand
  records_length = length_tabulate g.hand (λ (i : ℕ). slot size g.bytes (slot_back n g.next (suc i)))

  pub record_at_lem : (i : ℕ) → i < g.hand → get_or (records_in size n g) i [] ≡ slot size g.bytes (slot_back n g.next (suc i))
  record_at_lem i h = get_d_tabulate g.hand (λ (i : ℕ). slot size g.bytes (slot_back n g.next (suc i))) i [] h

-- with all slots on hand, the oldest is the one that the next record replaces
pub oldest_record : (size m : ℕ) (g : Ring) → Sound size (suc m) g → g.hand ≡ suc m → get_or (records_in size (suc m) g) m [] ≡ slot size g.bytes g.next
oldest_record size m g h full =
    let e : g.next + suc m - suc m ≡ g.next = omega arith in
    record_at_lem size (suc m) g m (omega arith)
    ∙ ap (slot size g.bytes) (back_round (suc m) g.next (suc m) (omega (arith, h.place)) ∙ e)

-- m + 1 slots: what a record that is written does to them
module _ (size m : ℕ) (new : List ℕ) (g : Ring) (long : length new ≡ size) (h : Sound size (suc m) g) where
  abbrev x : ℕ
  x = g.next

  within : x < suc m
  within = omega (arith, h.place)

  abbrev bytes' : List ℕ
  bytes' = put g.bytes (size * x) new

  abbrev g' : Ring
  g' = record { bytes = bytes'; hand = min (suc m) (g.hand + 1); next = next_slot (suc m) x }

  pub newest_slot : slot size (put g.bytes (size * g.next) new) (slot_back (suc m) (next_slot (suc m) g.next) 1) ≡ new
  newest_slot =
      ap (slot size bytes') (back_next (suc m) x 0 within (omega arith) ∙ back_on (suc m) x 0 (omega arith) ∙ sub-zero x)
      ∙ slot_same size (suc m) g.bytes h.room x new within long

  pub older_slot : (i : ℕ) → suc i < suc m → slot size (put g.bytes (size * g.next) new) (slot_back (suc m) (next_slot (suc m) g.next) (suc (suc i))) ≡ slot size g.bytes (slot_back (suc m) g.next (suc i))
  older_slot i l =
      ap (slot size bytes') (back_next (suc m) x (suc i) within l)
      ∙ slot_other size (suc m) g.bytes h.room x new within long (slot_back (suc m) x (suc i)) (back_other (suc m) x (suc i) within (omega arith) l)

  at_each : (i : ℕ) → i < min (suc m) (g.hand + 1) → get_or (records_in size (suc m) g') i [] ≡ get_or (take (suc m) (new ∷ records_in size (suc m) g)) i []
  at_each zero l = record_at_lem size (suc m) g' 0 (omega arith) ∙ newest_slot
  at_each (suc i) l =
      record_at_lem size (suc m) g' (suc i) l
      ∙ older_slot i (omega arith)
      ∙ sym (record_at_lem size (suc m) g i (omega arith))
      ∙ sym (get_or-take m (records_in size (suc m) g) i [] (omega arith))

  records_some : records_in size (suc m) g' ≡ take (suc m) (new ∷ records_in size (suc m) g)
  records_some =
      ext_get_or [] (records_in size (suc m) g') (take (suc m) (new ∷ records_in size (suc m) g))
      (records_length size (suc m) g'
      ∙ sym (length-take (suc m) (new ∷ records_in size (suc m) g) ∙ ap (λ (k : ℕ). min (suc m) (suc k)) (records_length size (suc m) g) ∙ omega arith))
      (λ i l. at_each i (omega (arith, records_length size (suc m) g')))

pub records_written : (size n : ℕ) (new : List ℕ) (g : Ring) → length new ≡ size → Sound size n g →
    records_in size n (written size n new g) ≡ take n (new ∷ records_in size n g)
records_written size zero new g long h =
    let none : g.hand ≡ 0 = omega (arith, h.most) in
    ap (records_in size 0) (written_none size new g)
    ∙ ap (λ (k : ℕ). tabulate k (λ (i : ℕ). slot size g.bytes (slot_back 0 g.next (suc i)))) none
records_written size (suc m) new g long h =
    ap (records_in size (suc m)) (sym (written_as size (suc m) new g (g' size m new g long h) (omega arith) refl refl refl))
    ∙ records_some size m new g long h

pub records_lowered : (size n k : ℕ) (g : Ring) → k ≤ g.hand → Sound size n g → records_in size n (lowered n k g) ≡ drop k (records_in size n g)
records_lowered size n k g l h =
    ext_get_or [] (records_in size n (lowered n k g)) (drop k (records_in size n g))
    (records_length size n (lowered n k g)
    ∙ sym (length-drop k (records_in size n g) ∙ ap (λ (j : ℕ). j - k) (records_length size n g)))
    (λ i b.
    let inside : i < g.hand - k = omega (arith, records_length size n (lowered n k g)) in
    record_at_lem size n (lowered n k g) i inside
    ∙ ap (slot size g.bytes)
    (back_back n g.next k (suc i) (omega (arith, h.place, h.most)) (omega (arith, h.most)) ∙ ap (slot_back n g.next) (add-suc k i))
    ∙ sym (get_or-drop k (records_in size n g) i [] ∙ record_at_lem size n g (k + i) (omega arith)))
