-- What the first n printers' ticks leave: the printers passed have had their tick, the others are as they were. What is so of every line of devices is `device`'s.
use Prim.Native.Nat.{ℕ, zero, suc, ◌/◌, ◌%◌, ◌^◌, ◌≤◌, ◌<◌}
use mathlib.Core.Path.{◌≡◌, refl, ap, ◌∙◌}
use mathlib.Core.Bool.{Bool, true, false, cond}
use mathlib.Core.List.{List}
use native.Mathlib.Omega.{arith}
use lib.ListN.{length, get_or, set, length-set}
use Rattle.device.specs.Line.{ticked_to, pending_to}
use Rattle.device.proofs.Passed as device
use Rattle.printer.specs.declared.Printer.{Printer}
use Rattle.printer.specs.Tick.{Printing, no_printer, room_of, place_of, prints, finishes, paper_ticked, printer_ticked, tick_one, ticks}

pub length_ticked : (n : ℕ) (p : Printer) (paper : List ℕ) → length (paper_ticked n p paper) ≡ length paper
unfolding paper_ticked
length_ticked n p paper = go (prints (room_of paper) p)
  where
    go : (on : Bool) → length (cond on (set paper (place_of (room_of paper) n p.count) (p.data0 % 256)) paper) ≡ length paper
    go true = length-set paper (place_of (room_of paper) n p.count) (p.data0 % 256)
    go false = refl

module _ (s : Printing) where
  -- printer n before any tick
  abbrev pub old : ℕ → Printer
  old n = get_or s.line.printers n no_printer

  abbrev pub room : ℕ
  room = room_of s.paper

  pub length_ticks : (n : ℕ) → length (ticks n s).paper ≡ length s.paper
  unfolding ticks tick_one
  length_ticks zero = refl
  length_ticks (suc n) = length_ticked n _ _ ∙ length_ticks n

  pub room_ticks : (n : ℕ) → room_of (ticks n s).paper ≡ room
  room_ticks n = ap (λ (l : ℕ). l / 8) (length_ticks n)

  -- ---- the line is a line of devices

  pub printers_told : (n : ℕ) → (ticks n s).line.printers ≡ ticked_to no_printer (printer_ticked room) n s.line.printers
  unfolding ticks tick_one ticked_to
  printers_told zero = refl
  printers_told (suc n) = rw (room_ticks n, printers_told n)

  pub pending_told : (n : ℕ) → (ticks n s).line.pending ≡ pending_to no_printer finishes (printer_ticked room) n s.line.printers s.line.pending
  unfolding ticks tick_one pending_to
  pending_told zero = refl
  pending_told (suc n) = rw (printers_told n, pending_told n)

  pub length_printers : (n : ℕ) → length (ticks n s).line.printers ≡ length s.line.printers
  length_printers n = ap length (printers_told n) ∙ device.length_to no_printer (printer_ticked room) s.line.printers n

  -- a printer not passed yet is as it was
  pub not_passed : (n m : ℕ) → n ≤ m → get_or (ticks n s).line.printers m no_printer ≡ old m
  not_passed n m h = ap (λ (l : List Printer). get_or l m no_printer) (printers_told n) ∙ device.not_passed no_printer (printer_ticked room) s.line.printers n m h

  -- a printer passed has had its tick
  pub passed : (n m : ℕ) → m < n → m < length s.line.printers → get_or (ticks n s).line.printers m no_printer ≡ printer_ticked room (old m)
  passed n m h l = ap (λ (l : List Printer). get_or l m no_printer) (printers_told n) ∙ device.passed no_printer (printer_ticked room) s.line.printers n m h l

  -- the paper after one tick more
  pub paper_on : (n : ℕ) → (ticks (suc n) s).paper ≡ paper_ticked n (old n) (ticks n s).paper
  unfolding ticks tick_one
  paper_on n = ap (λ (p : Printer). paper_ticked n p (ticks n s).paper) (not_passed n n (omega arith))

  pub pending_small : (n : ℕ) → n ≤ 8 → s.line.pending < 2 ^ 8 → (ticks n s).line.pending < 2 ^ 8
  pending_small n h small =
      rw (pending_told n) (device.pending_small no_printer (printer_ticked room) s.line.printers finishes s.line.pending n h small)
