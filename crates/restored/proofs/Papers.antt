-- What a step saves of paper: eight bytes, each with its place inside the paper.
use Prim.Native.Nat.{ℕ, ◌/◌, ◌<◌}
use mathlib.Core.Path.{◌≡◌, refl}
use mathlib.Core.Bool.{Bool, true, false, cond, not, ◌||◌}
use mathlib.Core.List.{List}
use native.Mathlib.Omega.{arith}
use borrow.Author.Tests.{ltb-true, lt-ltb}
use lib.Dec.{ltb, eqb}
use lib.ListN.{length, get_or}
use Rattle.word.specs.Lists.{every, Below}
use Rattle.word.specs.Map.{bit}
use Rattle.word.proofs.Cond.{both, picked}
use Rattle.word.proofs.Lists.{get_d_tabulate}
use Rattle.printer.specs.Saved.{saved_byte, saved_paper_of, byte_fits, paper_fits}
use Rattle.printer.specs.Tick.{no_printer, room_of, place_of, prints}
use Rattle.printer.specs.declared.Printer.{Printer}
use Rattle.printer.specs.declared.saved.SavedPaper.{SavedPaper}
use Rattle.printer.proofs.Each.{all_hold, each_holds}
use Rattle.printer.proofs.Notes.{note_fits}
use Rattle.printer.proofs.Places.{inside}
use Rattle.good.proofs.Belows.{below_any}
use Rattle.undo.specs.Fit.{paper_place_fits, paper_places_fit}

module _ (printers : List Printer) (paper : List ℕ) where
  pub eight_bytes : length (saved_paper_of printers paper).bytes ≡ 8
  unfolding saved_paper_of
  eight_bytes = refl

  pub bytes_small : Below 256 paper → Below 256 (saved_paper_of printers paper).bytes
  unfolding saved_paper_of
  bytes_small small i h =
      rw (get_d_tabulate 8 (saved_byte printers paper) i 0 h)
      (picked (λ (x : ℕ). x < 256) (prints (room_of paper) (get_or printers i no_printer)) _ _
      (λ _. below_any paper small (omega arith) (place_of (room_of paper) i (get_or printers i no_printer).count))
      (λ _. omega arith))

-- a byte that fits its printer's eighth lies in the paper
place_fits : (on zero : Bool) (n count paper : ℕ) → n < 8 → cond on (ltb count (paper / 8)) zero ≡ true →
    (not on || ltb (place_of (paper / 8) n count) paper) ≡ true
place_fits false zero n count paper h e = refl
place_fits true zero n count paper h e = lt-ltb _ paper (inside (paper / 8) n count (ltb-true count (paper / 8) e) paper h refl)

fits_places : (p : SavedPaper) (printers : List Printer) (paper : ℕ) → paper_fits p printers (paper / 8) ≡ true → paper_places_fit p.mask printers paper ≡ true
unfolding paper_fits paper_places_fit
fits_places p printers paper e =
    let each = (both (ltb p.mask 256) (every 8 (byte_fits p printers (paper / 8))) e).1 in
    all_hold 8 (paper_place_fits p.mask printers paper)
    (λ k h.
    place_fits (bit k p.mask) (eqb (get_or p.bytes k 0) 0) k (get_or printers k no_printer).count paper h
    (each_holds 8 (byte_fits p printers (paper / 8)) each k h))

pub places_fit : (printers : List Printer) (paper : List ℕ) → paper_places_fit (saved_paper_of printers paper).mask printers (length paper) ≡ true
places_fit printers paper = fits_places (saved_paper_of printers paper) printers (length paper) (note_fits printers paper)
