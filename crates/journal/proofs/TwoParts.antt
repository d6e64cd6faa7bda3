-- A record begun and then ended is the whole record written, and what is begun leaves the journal ready to be ended.
use Prim.Native.Nat.{ℕ, ◌+◌, ◌*◌, ◌≤◌, ◌<◌, min}
use native.Mathlib.Omega.{arith}
use mathlib.Core.Path.{◌≡◌, refl, sym, ap, ◌∙◌}
use mathlib.Core.Bool.{Bool, cond}
use mathlib.Core.List.{List, ◌++◌}
use borrow.Author.Tests.{eq-eqb, ne_eqb}
use lib.ListN.{length, take, drop, length-append}
use lib.Seq.{length-take-le, sets, length-sets}
use Rattle.word.specs.Lists.{flat}
use Rattle.word.specs.Little.{to_bytes}
use Rattle.word.proofs.Lists.{sets_right, sets_left, store_append}
use Rattle.word.proofs.LittleBytes.{length_to}
use Rattle.ring.specs.Slots.{Ring, next_slot, slot, put, written}
use Rattle.ring.proofs.Slots.{by_leb, length_put, length_slot, slot_same, written_none, written_as}
use Rattle.state.specs.declared.machine.Journal.{Journal}
use Rattle.record.specs.declared.Record.{Record}
use Rattle.record.specs.declared.Saved.{Saved}
use Rattle.record.specs.Layout.{saved_words, unused, overwritten_words, record_bytes, record_of, begun_in}
use Rattle.record.proofs.Stored.{length_saved}
use Rattle.record.proofs.Later.{length_overwritten, length_begun, saved_begun, saved_later}
use Rattle.journal.specs.Journal.{slots_of, ring_of, Ready, begun_of, ended_of, with_saved}

-- the slot that is next
abbrev next_of : Journal → List ℕ → List ℕ
next_of mark journal = slot 512 journal mark.next_slot

-- ---- with no slots, and with some

module _ (mark : Journal) (journal : List ℕ) where
  pub begun_none : (r : Record) → slots_of journal ≡ 0 → begun_of mark r journal ≡ journal
  begun_none r e = ap (λ (b : Bool). cond b journal (put journal (512 * mark.next_slot) (begun_in r (next_of mark journal)))) (eq-eqb (slots_of journal) 0 e)

  pub begun_some : (r : Record) → 0 < slots_of journal → begun_of mark r journal ≡ put journal (512 * mark.next_slot) (begun_in r (next_of mark journal))
  begun_some r h = ap (λ (b : Bool). cond b journal (put journal (512 * mark.next_slot) (begun_in r (next_of mark journal)))) (ne_eqb (slots_of journal) 0 (λ e. omega arith))

  -- some slots: the three parts as code has them
  abbrev parts : Saved → Ring
  parts s =
      record {
        bytes = sets journal (512 * mark.next_slot + 236) (flat (to_bytes 4) (overwritten_words s));
        hand = min (slots_of journal) (mark.on_hand + 1);
        next = next_slot (slots_of journal) mark.next_slot;
      }

  pub ended_none : (s : Saved) → slots_of journal ≡ 0 → ended_of mark s journal ≡ ring_of mark journal
  ended_none s e = ap (λ (b : Bool). cond b (ring_of mark journal) (parts s)) (eq-eqb (slots_of journal) 0 e)

  pub ended_as : (s : Saved) (g : Ring) → 0 < slots_of journal → g.bytes ≡ sets journal (512 * mark.next_slot + 236) (flat (to_bytes 4) (overwritten_words s)) →
      g.hand ≡ min (slots_of journal) (mark.on_hand + 1) → g.next ≡ next_slot (slots_of journal) mark.next_slot → g ≡ ended_of mark s journal
  ended_as s g h bytes hand next =
      (λ i. record { bytes = bytes i; hand = hand i; next = next i })
      ∙ sym (ap (λ (b : Bool). cond b (ring_of mark journal) (parts s)) (ne_eqb (slots_of journal) 0 (λ e. omega arith)))

-- what is saved and the unused words, stored one after the other
pub stored_both : (journal : List ℕ) (at behind : ℕ) (s : Saved) → behind ≡ at + 16 → {words one both : List ℕ} → words ≡ saved_words s →
    one ≡ sets journal at (flat (to_bytes 4) words) → both ≡ sets one behind (flat (to_bytes 4) unused) → both ≡ sets journal at (flat (to_bytes 4) (overwritten_words s))
stored_both journal at behind s e worded first second =
    second
    ∙ ap (λ (l : List ℕ). sets l behind (flat (to_bytes 4) unused)) (first ∙ ap (λ (ws : List ℕ). sets journal at (flat (to_bytes 4) ws)) worded)
    ∙ sym (store_append 4 (to_bytes 4) (length_to 4) (saved_words s) unused journal at behind (omega (arith, length_saved s)))

-- ---- stores within what was put

stores_within : (bytes : List ℕ) (at k : ℕ) (old vs new : List ℕ) → at + length old ≤ length bytes → k + length vs ≤ length old →
    sets old k vs ≡ new → sets (put bytes at old) (at + k) vs ≡ put bytes at new
stores_within bytes at k old vs new room inside e =
    let front = take at bytes in
    let long : length front ≡ at = length-take-le at bytes (omega arith) in
    let same : length old ≡ length new = sym (length-sets old k vs) ∙ ap length e in
    sets_left (front ++ old) (drop (at + length old) bytes) vs (at + k) (omega (arith, length-append front old))
    ∙ ap (λ (l : List ℕ). l ++ drop (at + length old) bytes)
    (ap (λ (n : ℕ). sets (front ++ old) (n + k) vs) (sym long) ∙ sets_right front old vs k ∙ ap (λ (l : List ℕ). front ++ l) e)
    ∙ ap (λ (n : ℕ). front ++ new ++ drop (at + n) bytes) same

-- ---- the two parts

module _ (mark : Journal) (r : Record) (journal : List ℕ) (eight : length r.printers ≡ 8) (ready : Ready journal mark) where
  module _ (some : 0 < slots_of journal) where
    within : mark.next_slot < slots_of journal
    within = omega (arith, ready.sound.place)

    length_next : length (next_of mark journal) ≡ 512
    length_next = length_slot 512 (slots_of journal) journal ready.sound.room mark.next_slot within

    long : length (begun_in r (next_of mark journal)) ≡ 512
    long = length_begun r (next_of mark journal) eight length_next

    room : 512 * mark.next_slot + length (begun_in r (next_of mark journal)) ≤ length journal
    room = omega (arith, long, ready.sound.place)

    -- what is begun leaves what the next slot saved
    pub begun_saved : (record_of (next_of mark (begun_of mark r journal))).saved ≡ (record_of (next_of mark journal)).saved
    begun_saved =
        ap (λ (l : List ℕ). (record_of (next_of mark l)).saved) (begun_some mark journal r some)
        ∙ ap (λ (l : List ℕ). (record_of l).saved) (slot_same 512 (slots_of journal) journal ready.sound.room mark.next_slot (begun_in r (next_of mark journal)) within long)
        ∙ saved_begun r (next_of mark journal) eight

  pub begun_length : length (begun_of mark r journal) ≡ length journal
  begun_length =
      by_leb (slots_of journal) 0
      (λ none. ap length (begun_none mark journal r (omega arith)))
      (λ some. ap length (begun_some mark journal r some) ∙ length_put journal (512 * mark.next_slot) (begun_in r (next_of mark journal)) (room some))

  slots_same : slots_of (begun_of mark r journal) ≡ slots_of journal
  slots_same = rw begun_length

  pub begun_ready : Ready (begun_of mark r journal) mark
  begun_ready =
      record {
        few = omega (arith, begun_length, ready.few);
        sound =
            record {
              room = omega (arith, begun_length, ready.sound.room);
              most = omega (arith, begun_length, ready.sound.most);
              place = omega (arith, begun_length, ready.sound.place);
            };
      }

  -- the bytes of what is saved go over those that were begun
  bytes_whole : (s : Saved) → 0 < slots_of journal → sets (begun_of mark r journal) (512 * mark.next_slot + 236) (flat (to_bytes 4) (overwritten_words s))
      ≡ put journal (512 * mark.next_slot) (record_bytes (with_saved s r))
  bytes_whole s some =
      let new = flat (to_bytes 4) (overwritten_words s) in
      ap (λ (l : List ℕ). sets l (512 * mark.next_slot + 236) new) (begun_some mark journal r some)
      ∙ stores_within journal (512 * mark.next_slot) 236 (begun_in r (next_of mark journal)) new (record_bytes (with_saved s r)) (room some)
      (omega (arith, long some, length_overwritten s)) (saved_later r (next_of mark journal) eight (length_next some) s)

-- THE law of the two parts
pub begun_ended : (mark : Journal) (r : Record) (s : Saved) (journal : List ℕ) → length r.printers ≡ 8 → Ready journal mark →
    ended_of mark s (begun_of mark r journal) ≡ written 512 (slots_of journal) (record_bytes (with_saved s r)) (ring_of mark journal)
begun_ended mark r s journal eight ready =
    let new : List ℕ = record_bytes (with_saved s r) in
    let g : Ring = ring_of mark journal in
    let mid : List ℕ = begun_of mark r journal in
    let same : slots_of mid ≡ slots_of journal = slots_same mark r journal eight ready in
    by_leb (slots_of journal) 0
    (λ none.
    let e : slots_of journal ≡ 0 = omega arith in
    ap (ended_of mark s) (begun_none mark journal r e)
    ∙ ended_none mark journal s e
    ∙ sym (ap (λ (n : ℕ). written 512 n new g) e ∙ written_none 512 new g))
    (λ some.
    sym (ended_as mark mid s (parts mark mid s) (omega arith) refl refl refl)
    ∙ written_as 512 (slots_of journal) new g (parts mark mid s) some (bytes_whole mark r journal eight ready s some)
    (ap (λ (n : ℕ). min n (mark.on_hand + 1)) same)
    (ap (λ (n : ℕ). next_slot n mark.next_slot) same))
