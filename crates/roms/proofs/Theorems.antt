-- What the statements of the two ROM calls amount to: each number exactly where its row applies and no lower one does, a window that is empty exactly where the
-- answer refuses, no steps and no reason.
use Prim.Native.Nat.{ℕ}
use mathlib.Core.Path.{◌≡◌, refl, ap, ◌∙◌}
use mathlib.Core.Bool.{Bool, cond, not, ◌&&◌}
use mathlib.Core.List.{List}
use lib.Dec.{eqb}
use lib.ListN.{length}
use Rattle.board.specs.Rom.{fit_of, held_of, answer_of, window_of}
use Rattle.board.specs.Rom as rom
use Rattle.std.specs.Prelude.{Result, Ok, Err}
use Rattle.board.specs.declared.rom.RomError.{RomError}
use Rattle.board.specs.declared.rom.RomError.TheVariants.{BadRom, BadAddress}
use Rattle.board.proofs.Windows.{answer_two, answer_nine, answer_zero, window_exact}
use Rattle.answer.specs.Answer.{number_of, reason_of, steps_of}
use Rattle.roms.specs.Rom.{told, rom_answer}

-- both enums say the same number
same_number : (r : Result Unit RomError) → number_of (told r) ≡ rom.number_of r
same_number (Ok done) = refl
same_number (Err BadRom) = refl
same_number (Err BadAddress) = refl

plain : (r : Result Unit RomError) → (steps_of (told r) ≡ 0) × (reason_of (told r) ≡ 0)
plain (Ok done) = (refl, refl)
plain (Err BadRom) = (refl, refl)
plain (Err BadAddress) = (refl, refl)

module _ (x y : List ℕ) (a : ℕ) where
  abbrev number : ℕ
  number = number_of (rom_answer x y a)

  abbrev fit : Bool
  fit = fit_of (length x) && fit_of (length y)

  number_is : (n : ℕ) → eqb number n ≡ eqb (rom.number_of (answer_of (length x) (length y) a)) n
  number_is n = ap (λ (k : ℕ). eqb k n) (same_number (answer_of (length x) (length y) a))

  pub number_2 : eqb number 2 ≡ not fit
  number_2 = number_is 2 ∙ answer_two (length x) (length y) a

  pub number_9 : eqb number 9 ≡ (fit && not (held_of (length x) (length y) a))
  number_9 = number_is 9 ∙ answer_nine (length x) (length y) a

  pub number_0 : eqb number 0 ≡ (fit && held_of (length x) (length y) a)
  number_0 = number_is 0 ∙ answer_zero (length x) (length y) a

  pub no_steps : (steps_of (rom_answer x y a) ≡ 0) × (reason_of (rom_answer x y a) ≡ 0)
  no_steps = plain (answer_of (length x) (length y) a)

  pub window_length : length (window_of x y a) ≡ cond (eqb number 0) 4 0
  window_length = window_exact x y a ∙ ap (λ b. cond b 4 0) (ap (λ (k : ℕ). eqb k 0) back)
    where
      back : rom.number_of (answer_of (length x) (length y) a) ≡ number
      back = let e = same_number (answer_of (length x) (length y) a) in cc
