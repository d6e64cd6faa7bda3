-- What a record keeps so that a tick can be taken back: the printers and the pending map as they were, and of paper a map of the printers
-- that print and the byte that each of them overwrites. The places need no room: they follow from the old counts.
use Rattle.std.specs.Prelude.{ℕ, zero, suc, Bool, cond, ◌&&◌, List, eqb, ltb, get_or, set, replicate}
use Rattle.word.specs.Lists.{tabulate, every}
use Rattle.word.specs.Sizes.{devices}
use Rattle.printer.specs.declared.Printer.{Printer}
use Rattle.printer.specs.declared.Line.{Line}
use Rattle.printer.specs.declared.saved.SavedPaper.{SavedPaper}
use Rattle.word.specs.Map.{bit, with_bit}
use Rattle.printer.specs.Tick.{Printing, no_printer, room_of, place_of, prints}

-- bit k of the map is on exactly if printer k, one of the first n, prints
unfoldable pub printing_map : ℕ → List Printer → ℕ → ℕ
printing_map room printers zero = 0
printing_map room printers (suc n) = with_bit n (prints room (get_or printers n no_printer)) (printing_map room printers n)

-- what stands where printer n prints, 0 where it does not
abbrev pub saved_byte : List Printer → List ℕ → ℕ → ℕ
saved_byte printers paper n =
    let p = get_or printers n no_printer in
    cond (prints (room_of paper) p) (get_or paper (place_of (room_of paper) n p.count) 0) 0

unfoldable pub saved_paper_of : List Printer → List ℕ → SavedPaper
saved_paper_of printers paper = record { mask = printing_map (room_of paper) printers devices; bytes = tabulate devices (saved_byte printers paper) }

-- a byte put back; nothing is done at a place that paper does not have
abbrev pub put_at : Bool → ℕ → Printer → ℕ → List ℕ → List ℕ
put_at on n p byte paper = cond on (set paper (place_of (room_of paper) n p.count) byte) paper

-- the bytes of printers 0 to n - 1 put back, the last first; `printers` are the old ones
unfoldable pub put_back : ℕ → List ℕ → List Printer → ℕ → List ℕ → List ℕ
put_back mask bytes printers zero paper = paper
put_back mask bytes printers (suc n) paper =
    put_back mask bytes printers n (put_at (bit n mask) n (get_or printers n no_printer) (get_or bytes n 0) paper)

abbrev pub restored_paper : SavedPaper → List Printer → List ℕ → List ℕ
restored_paper saved printers paper = put_back saved.mask saved.bytes printers devices paper

-- ---- aids to proofs: nothing that a reader must believe

-- the layout: a byte has its place within the printer's eighth, or is 0
abbrev pub byte_fits : SavedPaper → List Printer → ℕ → ℕ → Bool
byte_fits saved printers room n =
    cond (bit n saved.mask) (ltb (get_or printers n no_printer).count room) (eqb (get_or saved.bytes n 0) 0)

unfoldable pub paper_fits : SavedPaper → List Printer → ℕ → Bool
paper_fits saved printers room = ltb saved.mask 256 && every devices (byte_fits saved printers room)

-- what is kept of a step in which no printer is busy
abbrev pub nothing_saved : SavedPaper
nothing_saved = record { mask = 0; bytes = replicate devices 0 }

-- all that a record keeps of the printers
pub record Note : Type 0 where
  pub line : Line
  pub saved : SavedPaper

abbrev pub note_of : Printing → Note
note_of s = record { line = s.line; saved = saved_paper_of s.line.printers s.paper }

abbrev pub undo_of : Note → Printing → Printing
undo_of note s = record { line = note.line; paper = restored_paper note.saved note.line.printers s.paper }

-- a write changes one printer and the pending map
abbrev pub undo_write_of : ℕ → Printer → ℕ → Line → Line
undo_write_of n p pending line = record { printers = set line.printers n p; pending = pending }
