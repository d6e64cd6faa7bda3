-- The words of a slot that are looked at are what the record says of RAM.
use Prim.Native.Nat.{ℕ}
use mathlib.Core.Path.{◌≡◌, refl, ◌∙◌}
use mathlib.Core.Logic.{◌≢◌}
use mathlib.Core.Bool.{Bool, true, false, cond}
use mathlib.Core.List.{List}
use lib.Dec.{eqb}
use borrow.Author.Tests.{eq-eqb, ne_eqb}
use Rattle.record.specs.declared.Saved.TheVariants.{Nothing, Register, TlbRow}
use Rattle.record.specs.Layout.{saved_at, record_of, record_at, slot_word}
use Rattle.seek.specs.Latest.{word_before}
use Rattle.seek.specs.Seek.{writes_in, writes_of, pc_of}

module _ (place word : ℕ) where
  no_ram : (kind which first second : ℕ) → kind ≢ 3 → word_before place (writes_in (saved_at kind which first second)) word ≡ word
  unfolding saved_at
  no_ram kind which first second other = rw (ne_eqb kind 3 other) (go (eqb kind 1) (eqb kind 2))
    where
      go : (one two : Bool) →
          word_before place (writes_in (cond one (Register which first) (cond two (TlbRow which (record { high = first; low = second })) Nothing))) word ≡ word
      go true two = refl
      go false true = refl
      go false false = refl

  ram_word : (kind which first second : ℕ) → kind ≡ 3 →
      word_before place (writes_in (saved_at kind which first second)) word ≡ cond (eqb which place) first word
  unfolding saved_at
  ram_word kind which first second is = rw is

  module _ (slot : List ℕ) where
    saved_is : word_before place (writes_of slot) word
        ≡ word_before place (writes_in (saved_at (slot_word slot 59) (slot_word slot 60) (slot_word slot 61) (slot_word slot 62))) word
    unfolding record_of record_at
    saved_is = refl

    pub other_kind : slot_word slot 59 ≢ 3 → word_before place (writes_of slot) word ≡ word
    other_kind other = saved_is ∙ no_ram (slot_word slot 59) (slot_word slot 60) (slot_word slot 61) (slot_word slot 62) other

    module _ (is : slot_word slot 59 ≡ 3) where
      kind_three : word_before place (writes_of slot) word ≡ cond (eqb (slot_word slot 60) place) (slot_word slot 61) word
      kind_three = saved_is ∙ ram_word (slot_word slot 59) (slot_word slot 60) (slot_word slot 61) (slot_word slot 62) is

      pub other_place : slot_word slot 60 ≢ place → word_before place (writes_of slot) word ≡ word
      other_place other = kind_three ∙ rw (ne_eqb (slot_word slot 60) place other)

      pub same_place : slot_word slot 60 ≡ place → word_before place (writes_of slot) word ≡ slot_word slot 61
      same_place same = kind_three ∙ rw (eq-eqb (slot_word slot 60) place same)

pub pc_is : (slot : List ℕ) → pc_of slot ≡ slot_word slot 2
unfolding record_of record_at
pc_is slot = refl
