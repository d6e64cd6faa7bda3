-- The printers' words stay words over a tick and over every write, and paper stays bytes.
use Prim.Native.Nat.{ℕ, zero, suc, ◌+◌, ◌%◌, ◌^◌, ◌≤◌, ◌<◌}
use mathlib.Core.Path.{◌≡◌, sym, subst}
use mathlib.Core.Bool.{true, cond}
use native.Mathlib.Decide.{ℕ_discrete}
use native.Mathlib.Nat.{mod-lt}
use native.Mathlib.Omega.{arith}
use borrow.Author.Tests.{ltb-true}
use lib.Dec.{eqb, leb, ltb}
use lib.ListN.{length, get_or, set}
use lib.Seq.{get_or-set_same, get_or-set_other}
use mathlib.Core.List.{List}
use Rattle.word.specs.Lists.{Below}
use Rattle.word.specs.Map.{with_bit}
use Rattle.word.proofs.Cond.{picked}
use Rattle.word.proofs.Maps.{with_small}
use Rattle.printer.specs.declared.Printer.{Printer}
use Rattle.printer.specs.declared.Line.{Line}
use Rattle.printer.specs.Tick.{Printing, no_printer, is_busy, room_of, place_of, finishes, prints, ended_with, fallen, finished_of, printer_ticked, paper_ticked, tick_one, ticks, ticked_of}
use Rattle.printer.specs.Command.{starts_work, is_ack, is_illegal, commanded_of, with_data, takes_writes, command_of, data_of}
use Rattle.printer.proofs.Passed.{passed}
use Rattle.state.specs.Layout.{printer_words}
use Rattle.good.proofs.Belows.{below_set, each_below, below_each}
use Rattle.good.proofs.Sound.{LineWords}

abbrev pub PrinterSmall : Printer → Type 0
PrinterSmall p = Below (2 ^ 32) (printer_words p)

-- the same printer
small_as : {p q : Printer} → p ≡ q → PrinterSmall q → PrinterSmall p
small_as e h = subst PrinterSmall (sym e) h

-- ---- one printer

module _ (p : Printer) (h : PrinterSmall p) where
  ended : (status count : ℕ) → status < 2 ^ 32 → count < 2 ^ 32 → PrinterSmall (ended_with status count p)
  ended status count s c = let old = below_each (printer_words p) h in each_below (printer_words (ended_with status count p)) (omega arith)

  -- a count grows only within the eighth
  finished : (room : ℕ) → room < 2 ^ 32 → PrinterSmall (finished_of room p)
  unfolding finished_of
  finished room few =
      let old = below_each (printer_words p) h in
      picked PrinterSmall (eqb p.command 2) (cond (ltb p.count room) (ended_with 1 (p.count + 1) p) (ended_with 4 p.count p)) (ended_with 1 p.count p)
      (λ _. picked PrinterSmall (ltb p.count room) (ended_with 1 (p.count + 1) p) (ended_with 4 p.count p)
      (λ e. let less = ltb-true p.count room e in ended 1 (p.count + 1) (omega arith) (omega arith))
      (λ _. ended 4 p.count (omega arith) (omega arith)))
      (λ _. ended 1 p.count (omega arith) (omega arith))

  pub printer_ticked_lem : (room : ℕ) → room < 2 ^ 32 → PrinterSmall (printer_ticked room p)
  unfolding printer_ticked
  printer_ticked_lem room few =
      let old = below_each (printer_words p) h in
      picked PrinterSmall (is_busy p) (cond (leb p.left 1) (finished_of room p) (fallen p)) p
      (λ _. picked PrinterSmall (leb p.left 1) (finished_of room p) (fallen p) (λ _. finished room few)
      (λ _. each_below (printer_words (fallen p)) (omega arith)))
      (λ _. h)

  pub printer_commanded : (delay word : ℕ) → delay < 2 ^ 32 → word < 2 ^ 32 → PrinterSmall (commanded_of delay word p)
  unfolding commanded_of
  printer_commanded delay word d w =
      let old = below_each (printer_words p) h in
      let small : ℕ → Type 0 = λ x. x < 2 ^ 32 in
      let status : cond (starts_work word) 3 (cond (is_ack word) 1 2) < 2 ^ 32 =
      picked small (starts_work word) 3 _ (λ _. omega arith) (λ _. picked small (is_ack word) 1 2 (λ _. omega arith) (λ _. omega arith)) in
      let left : cond (starts_work word) delay p.left < 2 ^ 32 = picked small (starts_work word) delay p.left (λ _. d) (λ _. omega arith) in
      each_below (printer_words (commanded_of delay word p)) (omega arith)

  pub printer_data : (word : ℕ) → word < 2 ^ 32 → PrinterSmall (with_data word p)
  printer_data word w = let old = below_each (printer_words p) h in each_below (printer_words (with_data word p)) (omega arith)

-- ---- the line over a write to printer n

module _ (line : Line) (h : LineWords line) (eight : length line.printers ≡ 8) (n : ℕ) (in_line : n < 8) where
  abbrev p : Printer
  p = get_or line.printers n no_printer

  one_anew : (new : Printer) (pending : ℕ) → PrinterSmall new → pending < 2 ^ 32 →
      LineWords (record { printers = set line.printers n new; pending = pending })
  one_anew new pending s l = record { each = λ i hi. by i hi (ℕ_discrete i n); pending = l }
    where
      by : (i : ℕ) → i < 8 → Dec (i ≡ n) → PrinterSmall (get_or (set line.printers n new) i no_printer)
      by i hi (yes e) =
          let inside : n < length line.printers = rw eight in_line in
          let same : get_or (set line.printers n new) i no_printer ≡ new = rw e (get_or-set_same line.printers n new no_printer inside) in
          small_as same s
      by i hi (no apart) = small_as (get_or-set_other line.printers n i new no_printer apart) (h.each i hi)

  pub command_words : (installed delay word : ℕ) → delay < 2 ^ 32 → word < 2 ^ 32 → LineWords (command_of installed delay n word line)
  unfolding command_of
  command_words installed delay word d w =
      picked LineWords (takes_writes installed n line) _ _
      (λ _. one_anew (commanded_of delay word p) (with_bit n (is_illegal word) line.pending) (printer_commanded p (h.each n in_line) delay word d w)
      (with_small n 32 (is_illegal word) line.pending (omega arith) h.pending))
      (λ _. h)

  pub data_words : (installed word : ℕ) → word < 2 ^ 32 → LineWords (data_of installed n word line)
  unfolding data_of
  data_words installed word w =
      picked LineWords (takes_writes installed n line) _ _
      (λ _. one_anew (with_data word p) line.pending (printer_data p (h.each n in_line) word w) h.pending) (λ _. h)

-- ---- the tick

module _ (s : Printing) (h : LineWords s.line) where
  pending_word : (n : ℕ) → n ≤ 8 → (ticks n s).line.pending < 2 ^ 32
  unfolding ticks tick_one
  pending_word zero l = h.pending
  pending_word (suc n) l =
      let was : (ticks n s).line.pending < 2 ^ 32 = pending_word n (omega arith) in
      picked (λ x. x < 2 ^ 32) (finishes (get_or (ticks n s).line.printers n no_printer)) _ _
      (λ _. with_small n 32 true (ticks n s).line.pending (omega arith) was) (λ _. was)

  pub ticked_words : length s.line.printers ≡ 8 → room_of s.paper < 2 ^ 32 → LineWords (ticked_of s).line
  ticked_words eight few = record {
    each = λ i hi.
        let inside : i < length s.line.printers = rw eight hi in
        small_as (passed s 8 i hi inside) (printer_ticked_lem (get_or s.line.printers i no_printer) (h.each i hi) (room_of s.paper) few);
    pending = pending_word 8 (omega arith);
  }

-- what is printed is a byte
paper_ticked_lem : (n : ℕ) (p : Printer) (paper : List ℕ) → Below 256 paper → Below 256 (paper_ticked n p paper)
unfolding paper_ticked
paper_ticked_lem n p paper h =
    picked (Below 256) (prints (room_of paper) p) _ _
    (λ _. below_set paper (place_of (room_of paper) n p.count) (p.data0 % 256) h (mod-lt p.data0 (omega arith))) (λ _. h)

pub paper_bytes : (s : Printing) (n : ℕ) → Below 256 s.paper → Below 256 (ticks n s).paper
unfolding ticks tick_one
paper_bytes s zero h = h
paper_bytes s (suc n) h = paper_ticked_lem n (get_or (ticks n s).line.printers n no_printer) (ticks n s).paper (paper_bytes s n h)
