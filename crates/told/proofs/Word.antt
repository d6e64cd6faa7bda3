-- Undoing a record puts back the word that it says, and no other.
use Prim.Native.Nat.{ℕ, ◌+◌, ◌*◌, ◌/◌, ◌%◌, ◌^◌, ◌≤◌, ◌<◌}
use native.Mathlib.Omega.{arith}
use native.Mathlib.Nat.{mod-eq_of_lt}
use native.Mathlib.Decide.{ℕ_discrete}
use mathlib.Core.Path.{◌≡◌, refl, sym, ap, subst, ◌∙◌}
use mathlib.Core.Logic.{◌≢◌}
use mathlib.Core.Bool.{Bool, true, cond}
use mathlib.Core.List.{List}
use borrow.Author.Tests.{eqb-true, leb-true, eq-eqb, ne_eqb}
use lib.Dec.{eqb, ltb}
use lib.ListN.{length}
use lib.Seq.{sets, sets-eq}
use Rattle.word.specs.Little.{from_bytes, to_bytes}
use Rattle.word.proofs.Cond.{both}
use Rattle.word.proofs.LittleBytes.{length_to, from_to}
use Rattle.memory.specs.Memory.{load_at}
use Rattle.ring.specs.Slots.{slot, put}
use Rattle.ring.proofs.Slots.{slot_same, slot_other}
use Rattle.record.specs.declared.Saved.{Saved}
use Rattle.record.specs.declared.Saved.TheVariants.{Nothing, Register, TlbRow, RamWord}
use Rattle.record.specs.Keeps.{saved_ranged}
use Rattle.record.specs.Layout.{distance_room}
use Rattle.undo.specs.Undo.{ram_back}
use Rattle.undo.specs.Fit.{ram_place_fits}
use Rattle.seek.specs.Latest.{word_before}
use Rattle.seek.specs.Seek.{writes_in}

-- RAM as cells of four bytes
module _ (ram : List ℕ) (x y old : ℕ) (small : old < 2 ^ 32) (first : 4 * x + 4 ≤ length ram) where
  load_cell : (m : List ℕ) → load_at 4 m (4 * y) ≡ from_bytes (slot 4 m y)
  unfolding load_at
  load_cell m = refl

  as_put : sets ram (4 * x) (to_bytes 4 old) ≡ put ram (4 * x) (to_bytes 4 old)
  as_put = sets-eq (to_bytes 4 old) ram (4 * x) (omega (arith, length_to 4 old))

  abbrev after : List ℕ
  after = put ram (4 * x) (to_bytes 4 old)

  cell_same : y ≡ x → from_bytes (slot 4 after y) ≡ old
  cell_same e =
      ap (λ (i : ℕ). from_bytes (slot 4 after i)) e
      ∙ ap from_bytes (slot_same 4 (length ram / 4) ram (omega arith) x (to_bytes 4 old) (omega arith) (length_to 4 old))
      ∙ from_to 4 old
      ∙ mod-eq_of_lt small

  cell_other : y ≢ x → slot 4 after y ≡ slot 4 ram y
  cell_other e = slot_other 4 (length ram / 4) ram (omega arith) x (to_bytes 4 old) (omega arith) (length_to 4 old) y e

  word_put : load_at 4 (sets ram (4 * x) (to_bytes 4 old)) (4 * y) ≡ cond (eqb (4 * x) (4 * y)) old (load_at 4 ram (4 * y))
  word_put =
      elim (ℕ_discrete y x) [
        | yes e ↦
            let same : 4 * x ≡ 4 * y = omega arith in
            load_cell (sets ram (4 * x) (to_bytes 4 old))
            ∙ ap (λ (m : List ℕ). from_bytes (slot 4 m y)) as_put
            ∙ cell_same e
            ∙ ap (λ (b : Bool). cond b old (load_at 4 ram (4 * y))) (sym (eq-eqb (4 * x) (4 * y) same))
        | no e ↦
            let other : (4 * x ≡ 4 * y → ⊥) = λ q. e (omega arith) in
            load_cell (sets ram (4 * x) (to_bytes 4 old))
            ∙ ap (λ (m : List ℕ). from_bytes (slot 4 m y)) as_put
            ∙ ap from_bytes (cell_other e)
            ∙ sym (load_cell ram)
            ∙ ap (λ (b : Bool). cond b old (load_at 4 ram (4 * y))) (sym (ne_eqb (4 * x) (4 * y) other))
      ]

-- the word that a record saved fits a word
abbrev pub Small : Saved → Type 0
Small Nothing = Unit
Small (Register n old) = Unit
Small (TlbRow i row) = Unit
Small (RamWord place old distance) = old < 2 ^ 32

pub word_undone : (s : Saved) (ram : List ℕ) (place : ℕ) → saved_ranged s ≡ true → ram_place_fits s (length ram) ≡ true → Small s → place % 4 ≡ 0 →
    load_at 4 (ram_back s ram) place ≡ word_before place (writes_in s) (load_at 4 ram place)
word_undone Nothing ram place ranged fits small aligned = refl
word_undone (Register n old) ram place ranged fits small aligned = refl
word_undone (TlbRow i row) ram place ranged fits small aligned = refl
word_undone (RamWord p old distance) ram place ranged fits small aligned =
    let zero : p % 4 ≡ 0 = eqb-true (p % 4) 0 (both (eqb (p % 4) 0) (ltb distance distance_room) ranged).0 in
    let x : p ≡ 4 * (p / 4) = omega arith in
    let y : place ≡ 4 * (place / 4) = omega arith in
    let room : p + 4 ≤ length ram = leb-true (p + 4) (length ram) fits in
    let law = word_put ram (p / 4) (place / 4) old small (omega arith) in
    subst (λ (at : ℕ). load_at 4 (sets ram p (to_bytes 4 old)) at ≡ cond (eqb p at) old (load_at 4 ram at)) (sym y)
    (subst (λ (at : ℕ). load_at 4 (sets ram at (to_bytes 4 old)) (4 * (place / 4)) ≡ cond (eqb at (4 * (place / 4))) old (load_at 4 ram (4 * (place / 4)))) (sym x) law)
