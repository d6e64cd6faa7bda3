-- EVERY IMAGE THAT A DONE TAKE-BACK WRITES KEEPS THE RULES, and what is lent stays as long as it was: from any image that is accepted, and any journal, whatever
-- steps its records are of or if they are of none.
use Prim.Native.Nat.{ℕ, zero, suc, ◌+◌, ◌-◌, ◌*◌, ◌^◌, ◌≤◌, ◌<◌, max}
use native.Mathlib.Decide.{ℕ_discrete}
use native.Mathlib.Nat.{sub-zero}
use native.Mathlib.Omega.{arith}
use mathlib.Core.Path.{◌≡◌, refl, sym, ap, ap₂, subst, ◌∙◌}
use mathlib.Core.Bool.{true}
use mathlib.Core.List.{List}
use borrow.Author.Tests.{leb-true, le-leb}
use lib.ListN.{length, drop, length-take}
use Rattle.word.specs.Lists.{Below}
use Rattle.word.proofs.Cond.{both}
use Rattle.ring.specs.Slots.{Ring, Sound, slot, slot_back, lowered}
use Rattle.ring.specs.Back as ring
use Rattle.ring.specs.Back.{undone, undone_side, all_fit}
use Rattle.ring.proofs.Slots.{back_below, back_on, slot_at, length_slot, sound_lowered}
use Rattle.ring.proofs.Back.{undone_none, side_none}
use Rattle.record.specs.Layout.{record_of}
use Rattle.journal.specs.Journal.{slots_of, ring_of}
use Rattle.state.specs.Layout.{bytes_of, machine_of}
use Rattle.rules.specs.Rules.{good_image}
use Rattle.rules.proofs.Good.{good_same}
use Rattle.step.specs.World.{World}
use Rattle.good.specs.Good.{Good}
use Rattle.good.proofs.Belows.{below_any}
use Rattle.undo.specs.Undo.{View}
use Rattle.undo.proofs.Laws.{cored}
use Rattle.undo.proofs.Typed.{good_back}
use Rattle.indexed.proofs.Lengths.{backward_long}
use Rattle.turn.specs.Buffers.{Buffers}
use Rattle.back.specs.Back as back
use Rattle.back.specs.Back.{no_roms}
use Rattle.answer.specs.declared.Reason.TheVariants.{NoReason}
use Rattle.answer.specs.Answer.{packed_of, done_with}
use Rattle.answer.specs.Lent.{ram_fits, paper_fits, journal_fits, index_fits}
use Rattle.accepted.specs.After.{world_from, machine_after}
use Rattle.accepted.specs.Left.{Left, left_of}
use Rattle.backward.specs.Back.{done_back, back_leaves}
use Rattle.accepted.proofs.Start.{few_slots, ring_sound, image_mark, start_good}
use Rattle.accepted.proofs.End.{end_bytes}
use Rattle.accepted.proofs.End.{end_good}
use Rattle.backward.proofs.Theorems.{back_number, number_0, no_other, refused_same, done_leaves, done_is, done_steps}

slot_bytes : (size : ℕ) (bytes : List ℕ) (x : ℕ) → Below 256 bytes → Below 256 (slot size bytes x)
slot_bytes size bytes x small i h =
    let low : i < size = omega (arith, length-take size (drop (size * x) bytes)) in
    rw (slot_at size bytes x i low) (below_any bytes small (omega arith) (size * x + i))

-- ---- records undone one by one, over n slots that lie in the journal

module _ (n : ℕ) (journal : List ℕ) (next : ℕ) (w : World) where
  abbrev before : ℕ → World
  before k = undone (back.both no_roms) n journal next k w

  before_ram : (k : ℕ) → length (before k).ram ≡ length w.ram
  unfolding undone
  before_ram zero = refl
  before_ram (suc k) =
      ap (λ (v : View). v.ram) (cored (record_of (ring.record_at (back.both no_roms) n journal next k)) (before k)) ∙ before_ram k

  before_paper : (k : ℕ) → length (before k).paper ≡ length w.paper
  unfolding undone
  before_paper zero = refl
  before_paper (suc k) =
      ap (λ (v : View). v.paper) (cored (record_of (ring.record_at (back.both no_roms) n journal next k)) (before k)) ∙ before_paper k

  before_index : (k hand : ℕ) (x : List ℕ) → length (undone_side (back.both no_roms) n journal next k hand w x) ≡ length x
  unfolding undone_side
  before_index zero hand x = refl
  before_index (suc k) hand x =
      backward_long (back.base no_roms) (hand - k) (ring.record_at (back.both no_roms) n journal next k) (before k) (undone_side (back.both no_roms) n journal next k hand w x)
      ∙ before_index k hand x

  module _ (room : 512 * n ≤ length journal) (place : next < max n 1) (small : Below 256 journal) (good : Good w) where
    before_good : (k : ℕ) → k ≤ n → all_fit (back.both no_roms) n journal next k w ≡ true → Good (before k)
    unfolding undone all_fit
    before_good zero l e = good
    before_good (suc k) l e =
        let h = both _ _ e in
        let x : ℕ = slot_back n next (suc k) in
        let inside : x < n = back_below n next (suc k) (omega arith) l in
        good_back (slot 512 journal x) (before k) (before_good k (omega arith) h.0) (slot_bytes 512 journal x small)
        (length_slot 512 n journal room x inside) h.1

-- ---- the call

pub record BackKept (left : Left) (b : Buffers) : Type 0 where
  pub image_good : good_image left.buffers.image (length b.beside.paper) (length b.beside.journal) ≡ true
  pub ram_long : length left.buffers.beside.ram ≡ length b.beside.ram
  pub paper_long : length left.buffers.beside.paper ≡ length b.beside.paper
  pub journal_same : left.buffers.beside.journal ≡ b.beside.journal
  pub index_long : length left.buffers.beside.index ≡ length b.beside.index
  pub image_bytes : Below 256 left.buffers.image
  pub ram_bytes : Below 256 left.buffers.beside.ram
  pub paper_bytes : Below 256 left.buffers.beside.paper

module _ (b : Buffers) (k : ℕ) (number : back_number b k ≡ 0) where
  abbrev journal : List ℕ
  journal = b.beside.journal

  abbrev n : ℕ
  n = slots_of journal

  abbrev start : Ring
  start = ring_of (machine_of b.image).journal journal

  start_sound : Sound 512 n start
  start_sound =
      let t = (number_0 b k).0 number in
      ring_sound journal (machine_of b.image).journal (image_mark b.image (length b.beside.paper) (length journal) t.1.1.1.0)

  -- no more is taken back than is on hand
  near : k ≤ start.hand
  near = leb-true k start.hand ((number_0 b k).0 number).1.1.1.1.0

  -- what is lent is bytes
  module _ (image_are : Below 256 b.image) (ram_are : Below 256 b.beside.ram) (paper_are : Below 256 b.beside.paper)
      (journal_are : Below 256 journal) where
    abbrev older : World
    older = before n journal start.next (world_from b) k

    older_good : Good older
    older_good =
        let t = (number_0 b k).0 number in
        let s = start_sound in
        before_good n journal start.next (world_from b) s.room s.place journal_are
        (start_good b.image b.beside.ram b.beside.paper (length journal) t.1.1.1.0 image_are ram_are paper_are) k
        (omega (arith, near, s.most)) t.1.1.1.1.1.0

    done_kept : BackKept (done_leaves b k) b
    done_kept =
        let g = lowered n k start in
        let few = few_slots journal ((number_0 b k).0 number).1.1.0 in
        let sound = sound_lowered 512 n k start near start_sound in
        let long = before_paper n journal start.next (world_from b) k in
        record {
          image_good = subst (λ (l : ℕ). good_image (bytes_of (machine_after older g)) l (length journal) ≡ true) long (end_good older g n few older_good sound refl);
          ram_long = before_ram n journal start.next (world_from b) k;
          paper_long = long;
          journal_same = refl;
          index_long = before_index n journal start.next (world_from b) k start.hand b.beside.index;
          image_bytes = end_bytes older g n few older_good sound;
          ram_bytes = older_good.ram;
          paper_bytes = older_good.paper;
        }

    -- THE THEOREM
    pub back_kept : BackKept (back_leaves b k) b
    back_kept = subst (λ (l : Left). BackKept l b) (sym (done_is b k number)) done_kept

-- done or refused, the answer fits in the 64 bits that it is packed in
pub packed_fits : (b : Buffers) (k : ℕ) → packed_of (back_leaves b k).answer < 2 ^ 64
packed_fits b k = by (ℕ_discrete number 0)
  where
    left : Left
    left = back_leaves b k

    number : ℕ
    number = back_number b k

    by : Dec (number ≡ 0) → packed_of left.answer < 2 ^ 64
    by (yes e) =
        let d = done_steps b k e in
        let most = (start_sound b k e).most in
        let few = few_slots b.beside.journal ((number_0 b k).0 e).1.1.0 in
        omega (arith, e, d.0, d.1, near b k e, most, few)
    by (no h) =
        let u = refused_same b k h in
        omega (arith, no_other b k, u.no_steps, u.no_reason)

-- ---- "take-back of 0 [is] done and change[s] nothing"

module _ (b : Buffers) (ram_fits : ram_fits (length b.beside.ram) ≡ true) (paper_fits : paper_fits (length b.beside.paper) ≡ true)
    (journal_fits : journal_fits (length b.beside.journal) ≡ true)
    (good : good_image b.image (length b.beside.paper) (length b.beside.journal) ≡ true)
    (each : index_fits (length b.beside.ram) (length b.beside.index) ≡ true) where
  none_done : back_number b 0 ≡ 0
  unfolding all_fit
  none_done =
      (number_0 b 0).1 (ram_fits, (paper_fits, (journal_fits, (good, (le-leb 0 (machine_of b.image).journal.on_hand (omega arith), (refl, each))))))

  pub back_none : Below 256 b.image → back_leaves b 0 ≡ left_of (done_with 0 NoReason) b
  back_none small =
      let mark = (machine_of b.image).journal in
      let journal = b.beside.journal in
      let n = slots_of journal in
      let w = world_from b in
      let next : slot_back n mark.next_slot 0 ≡ mark.next_slot = back_on n mark.next_slot 0 (omega arith) ∙ sub-zero mark.next_slot in
      let same : lowered n 0 (ring_of mark journal) ≡ ring_of mark journal =
      λ i. record { bytes = journal; hand = sub-zero mark.on_hand i; next = next i } in
      done_is b 0 none_done
      ∙ ap₂ (λ (s : World) (x : List ℕ). done_back 0 b.beside s x (lowered n 0 (ring_of mark journal)))
      (undone_none (back.both no_roms) n journal mark.next_slot w)
      (side_none (back.both no_roms) n journal mark.next_slot w mark.on_hand b.beside.index)
      ∙ ap (done_back 0 b.beside w b.beside.index) same
      ∙ ap (λ (image : List ℕ). left_of (done_with 0 NoReason) (record { image = image; beside = b.beside }))
      (good_same b.image (length b.beside.paper) (length journal) small good)
