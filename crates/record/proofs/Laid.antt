-- What is laid down before a step is decided: its parts, stored one after the other, are the slot up to the saved words.
use Prim.Native.Nat.{ℕ}
use mathlib.Core.Path.{◌≡◌, refl, sym, ap, ◌∙◌}
use mathlib.Core.List.{List, [], ◌++◌}
use native.Mathlib.Omega.{arith}
use lib.ListN.{length, take, drop, length-append, length-drop, take-append-drop}
use lib.Seq.{sets, length-take-le, take_all}
use Rattle.word.specs.Lists.{flat}
use Rattle.word.specs.Little.{to_bytes}
use Rattle.word.proofs.Lists.{sets_part, store_append}
use Rattle.word.proofs.LittleBytes.{length_to}
use Rattle.record.specs.Layout.{behind_in, laid_of}
use Rattle.record.proofs.Stored.{length_words}

abbrev bytes : List ℕ → List ℕ
bytes = flat (to_bytes 4)

-- a slot in two parts, from the saved words on the second
module _ (l : List ℕ) (long : length l ≡ 512) where
  pub length_behind_in : length (behind_in l) ≡ 276
  length_behind_in = omega (arith, length-drop 236 l)

  -- a store over the first
  before : (a : List ℕ) → length a ≡ 236 → sets l 0 a ≡ a ++ behind_in l
  before a la =
      ap (λ (m : List ℕ). sets m 0 a) (sym (take-append-drop 236 l))
      ∙ sets_part [] (take 236 l) (behind_in l) a 0 refl (la ∙ sym (length-take-le 236 l (omega arith)))

-- the printers' words, in two halves
halves : (printers : List ℕ) → length printers ≡ 40 → take 20 printers ++ take 20 (drop 20 printers) ≡ printers
halves printers forty =
    ap (λ (m : List ℕ). take 20 printers ++ m) (take_all 20 (drop 20 printers) (omega (arith, length-drop 20 printers)))
    ∙ take-append-drop 20 printers

-- the slot as `encode` leaves it after each part
pub laid : (core small printers l : List ℕ) → length core ≡ 14 → length small ≡ 5 → length printers ≡ 40 → length l ≡ 512 →
    {made l₁ l₂ l₃ l₄ : List ℕ} → made ≡ small → l₁ ≡ sets l 0 (bytes core) → l₂ ≡ sets l₁ 56 (bytes made) → l₃ ≡ sets l₂ 76 (bytes (take 20 printers)) →
    l₄ ≡ sets l₃ 156 (bytes (take 20 (drop 20 printers))) → l₄ ≡ laid_of core small printers l
unfolding laid_of
laid core small printers l hc hs hp hl {l₄ = l₄} e e₁ e₂ e₃ e₄ =
    let p₁ = take 20 printers in
    let p₂ = take 20 (drop 20 printers) in
    let long₁ : length p₁ ≡ 20 = length-take-le 20 printers (omega arith) in
    let whole : sets l 0 (bytes (core ++ (small ++ (p₁ ++ p₂)))) ≡ sets (sets (sets (sets l 0 (bytes core)) 56 (bytes small)) 76 (bytes p₁)) 156 (bytes p₂) =
    store_append 4 (to_bytes 4) (length_to 4) core (small ++ (p₁ ++ p₂)) l 0 56 (omega (arith, hc))
    ∙ store_append 4 (to_bytes 4) (length_to 4) small (p₁ ++ p₂) _ 56 76 (omega (arith, hs))
    ∙ store_append 4 (to_bytes 4) (length_to 4) p₁ p₂ _ 76 156 (omega (arith, long₁)) in
    let stored : l₄ ≡ sets (sets (sets (sets l 0 (bytes core)) 56 (bytes small)) 76 (bytes p₁)) 156 (bytes p₂) = e₄ ∙ rw (e₃, e₂, e₁, e) in
    stored ∙ sym whole
    ∙ ap (λ (ws : List ℕ). sets l 0 (bytes (core ++ (small ++ ws)))) (halves printers hp)
    ∙ before l hl (bytes (core ++ (small ++ printers)))
    (omega (arith, length_words (core ++ (small ++ printers)), length-append core (small ++ printers), length-append small printers))
