-- What the code's answers come to, over plain values.
use Rattle.std.proofs.Common.{◌≡◌, ℕ, zero, suc, ◌+◌, ◌-◌, ◌/◌, ◌^◌, ◌<◌, ◌≤◌, Bool, cond, not, eqb, List, length, sym, refl, ap, ◌∙◌, mod-eq_of_lt, arith, le-ltb, lt-ltb}
use Rattle.memory.specs.Memory.{load_at, stored_at}
use Rattle.memory.proofs.Laws.{load_stored}
use Rattle.ring.specs.Slots.{Ring, slot, slot_back}
use Rattle.record.specs.Layout.{record_of}
use Rattle.record.specs.declared.Saved.{Saved}
use Rattle.decide.specs.declared.effect.Effect.TheVariants.{Ram}
use Rattle.std.proofs.Common.{None}
use Rattle.frames.specs.Bytes.{whole, replace_all_in, mark_in, Stepped, note_in}
use Rattle.marks.specs.Steps.{bare_in, forgotten_of, below_in, kept_of, marked_of}

suc_sub_one : (m : ℕ) → suc m - 1 ≡ m
suc_sub_one m = omega arith

-- ---- the oldest record

module _ (g : Ring) (time : ℕ) (x : List ℕ) where
  abbrev oldest : Saved
  oldest = (record_of (slot 512 g.bytes g.next)).saved

  -- the index with that record forgotten, of n slots
  abbrev without : ℕ → List ℕ
  without n = replace_all_in (slot_back whole time n) (λ k. None) (bare_in oldest) x

  -- while a slot is free none drops off
  pub forgets_room : (n : ℕ) → g.hand < n → x ≡ forgotten_of n g time x
  forgets_room zero room = refl
  forgets_room (suc m) room = sym (ap (λ (b : Bool). cond b (without (suc m)) x) (le-ltb m g.hand (omega arith)))

  pub forgets_full : (n gone : ℕ) (s : Saved) (after : List ℕ) → n ≤ g.hand → 0 < n → gone ≡ slot_back whole time n → s ≡ oldest →
      after ≡ replace_all_in gone (λ k. None) (bare_in s) x → after ≡ forgotten_of n g time x
  forgets_full zero gone s after full some e is left = absurd (omega arith)
  forgets_full (suc m) gone s after full some e is left =
      left
      ∙ ap (λ (c : ℕ). replace_all_in c (λ k. None) (bare_in s) x) e
      ∙ ap (λ (o : Saved). replace_all_in (slot_back whole time (suc m)) (λ k. None) (bare_in o) x) is
      ∙ sym (ap (λ (b : Bool). cond b (without (suc m)) x) (lt-ltb m g.hand (omega arith)))

-- ---- how many are below

pub below_room : (n hand : ℕ) → hand < n → hand ≡ below_in n hand
below_room zero hand h = absurd (omega arith)
below_room (suc m) hand h = sym (ap (λ (b : Bool). cond b m hand) (le-ltb m hand (omega arith)))

pub below_full : (n hand : ℕ) → 0 < n → n ≤ hand → n - 1 ≡ below_in n hand
below_full zero hand some h = absurd (omega arith)
below_full (suc m) hand some h = suc_sub_one m ∙ sym (ap (λ (b : Bool). cond b m hand) (lt-ltb m hand (omega arith)))

-- ---- the word written

module _ (time below : ℕ) (ram x : List ℕ) (at word : ℕ) (small : word < 2 ^ 32) (inside : at + 4 ≤ length ram) (old : ℕ) (read : old ≡ load_at 4 ram at) where
  changed_is : not (eqb old word) ≡ not (eqb (load_at 4 ram at) (load_at 4 (stored_at 4 ram at word) at))
  changed_is =
      ap (λ (w : ℕ). not (eqb w word)) read
      ∙ ap (λ (w : ℕ). not (eqb (load_at 4 ram at) w)) (sym (load_stored 4 ram at inside word ∙ mod-eq_of_lt small))

  pub marks : (d : ℕ) (after : List ℕ) → ◌≡◌ {A = Stepped} (record { saved = d; bytes = after }) (note_in time below (at / 4096) (not (eqb old word)) x) →
      (d ≡ kept_of time below (Ram at word) x) × (after ≡ marked_of time (Ram at word) ram x)
  marks d after e = (
    ap (λ (s : Stepped). s.saved) e,
    ap (λ (s : Stepped). s.bytes) e ∙ ap (λ (b : Bool). mark_in time (at / 4096) b x) changed_is,
  )
