-- How a run holds the eight printers: as their forty words, in the order of the image and of a step's record.
use Rattle.std.specs.Prelude.{◌≡◌, ℕ, ◌*◌, ◌<◌, ◌≤◌, true, cond, List, length, ◌==◌, nat_le, slice_index}
use Rattle.word.specs.Lists.{tabulate}
use Rattle.word.specs.Sizes.{devices}
use Rattle.printer.specs.declared.Printer.{Printer}
use Rattle.printer.specs.Tick.{is_busy}
use Rattle.state.specs.declared.machine.Board.{Board}
use Rattle.state.specs.declared.machine.Settings.{Settings}
use Rattle.state.specs.Layout.{printer_from}
use Rattle.held.specs.declared.Held.{Held}

-- ---- aids to proofs: nothing that a reader must believe

abbrev pub printer_in : List ℕ → ℕ → Printer
printer_in words n = printer_from (5 * n) (λ (k : ℕ). slice_index words k)

unfoldable pub printers_in : List ℕ → List Printer
printers_in words = tabulate devices (printer_in words)

-- the board, of the parts that a run holds
abbrev pub board_of : Held → Settings → List ℕ → Board
board_of h settings words =
    record { clock = h.clock; settings = settings; line = record { printers = printers_in words; pending = h.pending } }

-- a printer that works ends in `soon` ticks at the earliest; where that is 1, it says no more than that one may work
abbrev pub Waits1 : ℕ → Printer → Type 0
Waits1 soon p = is_busy p ≡ true → (1 ≤ soon) × (1 < soon → soon ≤ p.left)

abbrev pub Waits : ℕ → List ℕ → Type 0
Waits soon words = (n : ℕ) → n < devices → Waits1 soon (printer_in words n)

-- the least of `soon` and what a printer has left
unfoldable pub least_of : Printer → ℕ → ℕ
least_of p soon = cond (is_busy p) (cond (nat_le p.left 1) 1 (cond (soon == 0) p.left (cond (nat_le p.left soon) p.left soon))) soon

-- `soon` is true of the printers, and the words are those of eight
pub record Told (h : Held) (words : List ℕ) : Type 0 where
  pub waits : Waits h.soon words
  pub forty : length words ≡ 40
