-- What the moves of the printers' line leave of the forty words that a run holds. words' and paper' are what stands behind the references afterwards.
use Rattle.std.specs.Prelude.{◌≡◌, ℕ, ◌<◌, Bool, true, false, cond, not, ◌&&◌, List, length, slice_index, slice_set, Option, Some, None}
use Rattle.word.specs.Map.{bit}
use Rattle.printer.specs.Tick.{printing, room_of, place_of, is_busy, finishes, prints, printer_ticked, paper_ticked, ticked_of}
use Rattle.printer.specs.Command.{command_of, data_of}
use Rattle.printer.specs.declared.Line.{Line}
use Rattle.printer.specs.declared.Printer.{Printer}
use Rattle.held.specs.Board.{printer_in, printers_in}

-- ---- aids to proofs: nothing that a reader must believe

abbrev pub line_in : List ℕ → ℕ → Line
line_in words pending = record { printers = printers_in words; pending = pending }

-- the tick of printer n: of the eight it alone changes
pub record OneHeldIs (n : ℕ) (words paper : List ℕ) (finished : Bool) (words' paper' : List ℕ) : Type 0 where
  pub printers_are : printers_in words' ≡ slice_set (printers_in words) n (printer_ticked (room_of paper) (printer_in words n))
  pub finished_is : finished ≡ finishes (printer_in words n)
  pub paper_is : paper' ≡ paper_ticked n (printer_in words n) paper
  pub forty : length words' ≡ 40

pub record TicksIs (words : List ℕ) (pending : ℕ) (paper : List ℕ) (map : ℕ) (words' paper' : List ℕ) : Type 0 where
  pub ticked : printing (printers_in words') map paper' ≡ ticked_of (printing (printers_in words) pending paper)
  pub forty : length words' ≡ 40

-- a tick does not end printer n
abbrev pub GoesOn : List ℕ → ℕ → Type 0
GoesOn words n = is_busy (printer_in words n) ≡ true → 1 < (printer_in words n).left

-- the tick of printer n, which it does not end; whatever paper is
abbrev pub WaitIs : ℕ → List ℕ → List ℕ → Type 0
WaitIs n words words' = (paper : List ℕ) → OneHeldIs n words paper false words' paper

-- the same of all eight, whatever paper and the map are
pub record WaitsIs (words words' : List ℕ) : Type 0 where
  pub ticked : (pending : ℕ) (paper : List ℕ) → printing (printers_in words') pending paper ≡ ticked_of (printing (printers_in words) pending paper)
  pub forty : length words' ≡ 40

-- an installed, idle printer takes writes
abbrev pub takes_in : ℕ → ℕ → Printer → Bool
takes_in installed n p = bit n installed && not (is_busy p)

pub record CommandIs (installed delay n word : ℕ) (words : List ℕ) (pending map : ℕ) (words' : List ℕ) : Type 0 where
  pub line_is : line_in words' map ≡ command_of installed delay n word (line_in words pending)
  pub forty : length words' ≡ 40

-- whatever the pending map is
pub record DataIs (installed n word : ℕ) (words words' : List ℕ) : Type 0 where
  pub line_is : (pending : ℕ) → line_in words' pending ≡ data_of installed n word (line_in words pending)
  pub forty : length words' ≡ 40

-- the byte that printer n overwrites, if it prints
abbrev pub kept_at : ℕ → List ℕ → List ℕ → Option ℕ
kept_at n words paper =
    cond (prints (room_of paper) (printer_in words n)) (Some (slice_index paper (place_of (room_of paper) n (printer_in words n).count))) None
