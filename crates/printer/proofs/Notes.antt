-- What a note says: its map tells which printers print, it fits, and where none prints it says nothing.
use Prim.{tt}
use Prim.Native.Nat.{ℕ, zero, suc, ◌^◌, ◌≤◌, ◌<◌}
use mathlib.Core.Path.{◌≡◌, refl, ◌∙◌}
use mathlib.Core.Bool.{Bool, true, false, cond}
use mathlib.Core.List.{List}
use native.Mathlib.Decide.{dec_lt}
use native.Mathlib.Nat.{zero-div}
use native.Mathlib.Omega.{arith}
use borrow.Author.Tests.{lt-ltb}
use lib.Dec.{eqb, ltb, lit<}
use lib.ListN.{get_or}
use Rattle.word.proofs.Lists.{get_d_tabulate, tabulate_ext}
use Rattle.printer.specs.declared.Printer.{Printer}
use Rattle.word.specs.Map.{bit, with_bit}
use Rattle.printer.specs.Tick.{no_printer, room_of, place_of, prints}
use Rattle.printer.specs.Saved.{printing_map, saved_byte, saved_paper_of, byte_fits, paper_fits, nothing_saved}
use Rattle.printer.proofs.Each.{all_hold}
use Rattle.word.proofs.Maps.{bit_told, bit_other, with_small}
use Rattle.printer.proofs.Places.{prints_room}

-- bit k of the map tells whether printer k prints
pub map_tells : (room : ℕ) (printers : List Printer) (n k : ℕ) → k < n → bit k (printing_map room printers n) ≡ prints room (get_or printers k no_printer)
unfolding printing_map
map_tells room printers zero k h = absurd (omega arith)
map_tells room printers (suc n) k h =
    elim (dec_lt k n) [
      | yes lower ↦ bit_other n k _ _ (λ e. omega arith) ∙ map_tells room printers n k lower
      | no not_lower ↦ let e : k ≡ n = omega arith in rw e (bit_told n _ _)
    ]

map_small : (room : ℕ) (printers : List Printer) (n : ℕ) → n ≤ 8 → printing_map room printers n < 2 ^ 8
unfolding printing_map
map_small room printers zero h = lit< tt
map_small room printers (suc n) h = with_small n 8 _ _ (omega arith) (map_small room printers n (omega arith))

module _ (printers : List Printer) (paper : List ℕ) where
  -- The note of every step is well formed.
  pub note_fits : paper_fits (saved_paper_of printers paper) printers (room_of paper) ≡ true
  unfolding paper_fits saved_paper_of
  note_fits =
      rw (lt-ltb _ 256 (map_small (room_of paper) printers 8 (omega arith)))
      (all_hold 8 (byte_fits (saved_paper_of printers paper) printers (room_of paper)) (λ k h.
      rw (map_tells (room_of paper) printers 8 k h, get_d_tabulate 8 (saved_byte printers paper) k 0 h)
      (go k (get_or printers k no_printer) (prints (room_of paper) (get_or printers k no_printer)) refl)))
    where
      go : (k : ℕ) (p : Printer) (on : Bool) → prints (room_of paper) p ≡ on →
          cond on (ltb p.count (room_of paper)) (eqb (cond on (get_or paper (place_of (room_of paper) k p.count) 0) 0) 0) ≡ true
      go k p true e = lt-ltb p.count (room_of paper) (prints_room (room_of paper) p e)
      go k p false e = refl

  silent_map : (n : ℕ) → ((k : ℕ) → k < n → prints (room_of paper) (get_or printers k no_printer) ≡ false) → printing_map (room_of paper) printers n ≡ 0
  unfolding printing_map with_bit
  silent_map zero h = refl
  silent_map (suc n) h = rw (silent_map n (λ k l. h k (omega arith)), h n (omega arith), zero-div (2 ^ n))

  -- Where no printer prints the note says nothing, so nothing need be computed for it.
  pub silent_note : ((k : ℕ) → k < 8 → prints (room_of paper) (get_or printers k no_printer) ≡ false) → saved_paper_of printers paper ≡ nothing_saved
  unfolding saved_paper_of
  silent_note silent = rw (silent_map 8 silent, tabulate_ext 8 (saved_byte printers paper) (λ (k : ℕ). 0) (λ k h. rw (silent k h)))
