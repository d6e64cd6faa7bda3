-- What a run holds of the printers is the printers: their words laid side by side, and read back.
use Rattle.std.specs.Prelude.{◌≡◌, ℕ, suc, ◌+◌, ◌*◌, ◌<◌, List, [], ◌∷◌, length, get_or, set}
use mathlib.Core.Path.{refl, sym, ap, ◌∙◌}
use native.Mathlib.Omega.{arith}
use native.Mathlib.Nat.{add-zero}
use lib.Seq.{sets}
use Rattle.word.specs.Lists.{tabulate, flat}
use Rattle.word.proofs.Lists.{length_tabulate, tabulate_ext, tabulate_get_d, length_flat, flat_at}
use Rattle.printer.specs.Tick.{no_printer}
use Rattle.printer.specs.declared.Printer.{Printer}
use Rattle.state.specs.Layout.{printer_words}
use Rattle.held.specs.Board.{printer_in, printers_in}

pub five_words : (p : Printer) → length (printer_words p) ≡ 5
five_words p = refl

pub length_held : (ps : List Printer) → length ps ≡ 8 → length (flat printer_words ps) ≡ 40
length_held ps eight = length_flat 5 printer_words five_words ps ∙ ap (λ (n : ℕ). 5 * n) eight

pub length_printers : (words : List ℕ) → length (printers_in words) ≡ 8
unfolding printers_in
length_printers words = length_tabulate 8 (printer_in words)

module _ (ps : List Printer) (eight : length ps ≡ 8) where
  word_in : (i j : ℕ) → i < 8 → j < 5 → get_or (flat printer_words ps) (5 * i + j) 0 ≡ get_or (printer_words (get_or ps i no_printer)) j 0
  word_in i j l m = flat_at 5 printer_words five_words ps no_printer i j (omega (arith, eight)) m

  one_in : (i : ℕ) → i < 8 → printer_in (flat printer_words ps) i ≡ get_or ps i no_printer
  one_in i l =
      let first : get_or (flat printer_words ps) (5 * i) 0 ≡ (get_or ps i no_printer).status = ap (λ (k : ℕ). get_or (flat printer_words ps) k 0) (sym (add-zero (5 * i))) ∙ word_in i 0 l (omega arith) in
      rw (first, word_in i 1 l (omega arith), word_in i 2 l (omega arith), word_in i 3 l (omega arith), word_in i 4 l (omega arith))

  pub held_printers : printers_in (flat printer_words ps) ≡ ps
  unfolding printers_in
  held_printers =
      tabulate_ext 8 (printer_in (flat printer_words ps)) (λ (i : ℕ). get_or ps i no_printer) one_in
      ∙ ap (λ (n : ℕ). tabulate n (λ (i : ℕ). get_or ps i no_printer)) (sym eight)
      ∙ tabulate_get_d ps no_printer

-- the forty words, one after the other
in_order : (w : List ℕ) → flat printer_words (printers_in w) ≡ tabulate 40 (λ (i : ℕ). get_or w i 0)
unfolding printers_in
in_order w = refl

pub words_held : (w : List ℕ) → length w ≡ 40 → flat printer_words (printers_in w) ≡ w
words_held w forty = in_order w ∙ ap (λ (n : ℕ). tabulate n (λ (i : ℕ). get_or w i 0)) (sym forty) ∙ tabulate_get_d w 0

-- five words stored one after the other
pub store_five : (l : List ℕ) (at a b c d e : ℕ) → set (set (set (set (set l at a) (at + 1) b) (at + 2) c) (at + 3) d) (at + 4) e ≡ sets l at (a ∷ b ∷ c ∷ d ∷ e ∷ [])
store_five l at a b c d e =
    let one : at + 1 ≡ suc at = omega arith in
    let two : at + 2 ≡ suc (suc at) = omega arith in
    let three : at + 3 ≡ suc (suc (suc at)) = omega arith in
    let four : at + 4 ≡ suc (suc (suc (suc at))) = omega arith in
    rw (one, two, three, four)
