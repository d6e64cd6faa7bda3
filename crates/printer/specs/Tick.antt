-- Document 01, "One step" 2: each busy printer's ticks left falls by one; at 0 it finishes. How it ends is in "Bus words and printers".
use Rattle.std.specs.Prelude.{ℕ, zero, suc, ◌+◌, ◌*◌, ◌-◌, ◌/◌, ◌%◌, Bool, true, false, ◌&&◌, ◌||◌, cond, List, ◌≡◌, eqb, leb, ltb, length, get_or, set}
use Rattle.printer.specs.declared.Printer.{Printer}
use Rattle.printer.specs.declared.Line.{Line}
use Rattle.printer.specs.declared.tick.One.{One}
use Rattle.word.specs.Map.{with_bit}
use Rattle.word.specs.Sizes.{devices}

-- the line and the lent paper
pub record Printing : Type 0 where
  pub line : Line
  pub paper : List ℕ

abbrev pub printing : List Printer → ℕ → List ℕ → Printing
printing printers pending paper = record { line = record { printers = printers; pending = pending }; paper = paper }

-- what stands past the end of a list of printers, which nothing reaches
abbrev pub no_printer : Printer
no_printer = record { status = 0; command = 0; data0 = 0; left = 0; count = 0 }

abbrev pub is_busy : Printer → Bool
is_busy p = eqb p.status 3

-- the bytes of an eighth
abbrev pub room_of : List ℕ → ℕ
room_of paper = length paper / devices

-- where the next byte of device n goes, that has printed count bytes: each has an eighth of its own
abbrev pub place_of : ℕ → ℕ → ℕ → ℕ
place_of room n count = n * room + count

-- one tick is left, which falls to 0
abbrev pub finishes : Printer → Bool
finishes p = is_busy p && leb p.left 1

-- it ends a PRINTCHR, and its eighth is not full
abbrev pub prints : ℕ → Printer → Bool
prints room p = finishes p && (eqb p.command 2 && ltb p.count room)

abbrev pub ended_with : ℕ → ℕ → Printer → Printer
ended_with status count p = record { status = status; command = p.command; data0 = p.data0; left = 0; count = count }

-- PRINTCHR ends with count + 1 and STATUS 1, or with STATUS 4 where the eighth is full; RESET with STATUS 1 and the count kept
unfoldable pub finished_of : ℕ → Printer → Printer
finished_of room p =
    cond (eqb p.command 2)
    (cond (ltb p.count room) (ended_with 1 (p.count + 1) p) (ended_with 4 p.count p))
    (ended_with 1 p.count p)

abbrev pub fallen : Printer → Printer
fallen p = record { status = p.status; command = p.command; data0 = p.data0; left = p.left - 1; count = p.count }

-- each busy printer's ticks left falls by one; at 0 it finishes
unfoldable pub printer_ticked : ℕ → Printer → Printer
printer_ticked room p = cond (is_busy p) (cond (leb p.left 1) (finished_of room p) (fallen p)) p

-- PRINTCHR writes DATA0 modulo 256 in printer n's eighth at its count
unfoldable pub paper_ticked : ℕ → Printer → List ℕ → List ℕ
paper_ticked n p paper = cond (prints (room_of paper) p) (set paper (place_of (room_of paper) n p.count) (p.data0 % 256)) paper

-- pending on where it finishes
abbrev pub pending_ticked : ℕ → Printer → ℕ → ℕ
pending_ticked n p pending = cond (finishes p) (with_bit n true pending) pending

-- the tick of printer n
unfoldable pub tick_one : ℕ → Printing → Printing
tick_one n s =
    let p = get_or s.line.printers n no_printer in
    printing (set s.line.printers n (printer_ticked (room_of s.paper) p)) (pending_ticked n p s.line.pending)
    (paper_ticked n p s.paper)

-- the ticks of printers 0 to n - 1
unfoldable pub ticks : ℕ → Printing → Printing
ticks zero s = s
ticks (suc n) s = tick_one n (ticks n s)

abbrev pub ticked_of : Printing → Printing
ticked_of s = ticks devices s

-- ---- aids to proofs: nothing that a reader must believe

-- what the tick of printer n gives: the printer, whether it finished, and paper
pub record OneIs (n : ℕ) (p : Printer) (paper : List ℕ) (one : One) (after : List ℕ) : Type 0 where
  pub printer_is : one.printer ≡ printer_ticked (room_of paper) p
  pub finished_is : one.finished ≡ finishes p
  pub paper_is : after ≡ paper_ticked n p paper

-- a test holds of a printer among the first n
unfoldable pub some_of : (Printer → Bool) → ℕ → List Printer → Bool
some_of test zero printers = false
some_of test (suc n) printers = some_of test n printers || test (get_or printers n no_printer)

abbrev pub any_busy : List Printer → Bool
any_busy printers = some_of is_busy devices printers

-- a printer finishes at the next tick
abbrev pub any_ending : List Printer → Bool
any_ending printers = some_of finishes devices printers

-- as many ticks as told
unfoldable pub waited_of : ℕ → Printing → Printing
waited_of zero s = s
waited_of (suc n) s = ticked_of (waited_of n s)
