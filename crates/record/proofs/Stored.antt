-- The lengths of a record's parts and of its bytes, and paper as it is read.
use Prim.Native.Nat.{ℕ, ◌*◌}
use mathlib.Core.Path.{◌≡◌, refl, sym, ◌∙◌}
use mathlib.Core.List.{List, [], ◌∷◌}
use native.Mathlib.Omega.{arith}
use lib.ListN.{length, length-append}
use lib.Seq.{sets}
use Rattle.word.specs.Lists.{flat}
use Rattle.word.specs.Little.{to_bytes}
use Rattle.word.proofs.Lists.{length_flat, sets_whole}
use Rattle.word.proofs.LittleBytes.{length_to}
use Rattle.printer.specs.declared.saved.SavedPaper.{SavedPaper}
use Rattle.state.specs.Layout.{printer_words}
use Rattle.record.specs.declared.Record.{Record}
use Rattle.record.specs.declared.Saved.{Saved}
use Rattle.record.specs.declared.Saved.TheVariants.{Nothing, Register, TlbRow, RamWord}
use Rattle.record.specs.Layout.{saved_words, layout_of, record_bytes, paper_at}

-- the bytes of a list of words
pub length_words : (ws : List ℕ) → length (flat (to_bytes 4) ws) ≡ 4 * length ws
length_words = length_flat 4 (to_bytes 4) (length_to 4)

-- two words stored over eight bytes are what is read of paper
pub paper_read : (word : ℕ → ℕ) (z : List ℕ) → length z ≡ 8 → {mask a b : ℕ} {bytes : List ℕ} → mask ≡ word 16 → a ≡ word 17 → b ≡ word 18 →
    bytes ≡ sets z 0 (flat (to_bytes 4) (a ∷ b ∷ [])) → ◌≡◌ {A = SavedPaper} (record { mask = mask; bytes = bytes }) (paper_at word)
paper_read word z h {mask} {a} {b} {bytes} e₁ e₂ e₃ e₄ =
    let whole : bytes ≡ flat (to_bytes 4) (a ∷ b ∷ []) = e₄ ∙ sets_whole z _ (length_words (a ∷ b ∷ []) ∙ sym h) in
    rw (whole, e₁, e₂, e₃)

-- ---- the whole

pub length_saved : (s : Saved) → length (saved_words s) ≡ 4
length_saved Nothing = refl
length_saved (Register _ _) = refl
length_saved (TlbRow _ _) = refl
length_saved (RamWord _ _ _) = refl

module _ (r : Record) (eight : length r.printers ≡ 8) where
  pub length_layout : length (layout_of r) ≡ 128
  unfolding layout_of
  length_layout = simp length-append (omega (arith, length_saved r.saved, length_flat 5 printer_words (λ p. refl) r.printers, eight))

  pub length_bytes : length (record_bytes r) ≡ 512
  unfolding record_bytes
  length_bytes = omega (arith, length_words (layout_of r), length_layout)
