-- Laws of the records on hand.
use Prim.Native.Nat.{ℕ, zero, suc, ◌+◌, ◌-◌, ◌*◌, ◌<◌}
use native.Mathlib.Omega.{arith}
use mathlib.Core.Path.{◌≡◌, refl, ap, ◌∙◌}
use mathlib.Core.Bool.{true}
use mathlib.Core.List.{List, [], ◌∷◌, map}
use borrow.Author.Tests.{leb-true, ltb-true}
use lib.Dec.{leb, ltb}
use lib.ListN.{length, take, drop, get_or, length-map}
use Rattle.word.proofs.Cond.{both}
use Rattle.ring.specs.Slots.{Ring, slot, slot_back}
use Rattle.ring.proofs.Slots.{slot_part, length_slot}
use Rattle.ring.proofs.OnRing.{records_length, record_at_lem}
use Rattle.journal.specs.Journal.{slots_of}
use Rattle.seek.specs.OnHand.{fits_in, Fits, kth_of, held_of}

pub fits : (journal : List ℕ) (hand next : ℕ) → fits_in journal hand next ≡ true → Fits journal hand next
fits journal hand next e =
    let h = both (leb hand (slots_of journal)) (ltb next (slots_of journal)) e in
    record { most = leb-true hand (slots_of journal) h.0; place = ltb-true next (slots_of journal) h.1 }

-- the part that is lent at the slot x
module _ (journal : List ℕ) (next k x : ℕ) (at : x ≡ slot_back (slots_of journal) next k) where
  pub kth_part : take (512 * x + 512 - 512 * x) (drop (512 * x) journal) ≡ kth_of journal next k
  kth_part = slot_part 512 journal x ∙ ap (slot 512 journal) at

  pub kth_long : x < slots_of journal → length (take (512 * x + 512 - 512 * x) (drop (512 * x) journal)) ≡ 512
  kth_long within = ap length (slot_part 512 journal x) ∙ length_slot 512 (slots_of journal) journal (omega arith) x within

-- an element of a mapped list, whatever stands past its end
map_at : {A B : Type 0} (f : A → B) (l : List A) (k : ℕ) (d : B) (e : A) → k < length l → get_or (map f l) k d ≡ f (get_or l k e)
map_at f [] k d e h = absurd (omega arith)
map_at f (x ∷ xs) zero d e h = refl
map_at f (x ∷ xs) (suc k) d e h = map_at f xs k d e (omega arith)

module _ {A : Type 0} (f : List ℕ → A) (journal : List ℕ) (hand next : ℕ) where
  abbrev ring : Ring
  ring = record { bytes = journal; hand = hand; next = next }

  pub held_long : length (map f (held_of journal hand next)) ≡ hand
  held_long = length-map (held_of journal hand next) f ∙ records_length 512 (slots_of journal) ring

  pub held_at : (i : ℕ) (d : A) → i < hand → get_or (map f (held_of journal hand next)) i d ≡ f (kth_of journal next (suc i))
  held_at i d h =
      map_at f (held_of journal hand next) i d [] (omega (arith, records_length 512 (slots_of journal) ring))
      ∙ ap f (record_at_lem 512 (slots_of journal) ring i h)
