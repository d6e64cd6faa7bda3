-- A store names one of the eight printers, and keeps their rules; an uninstalled printer reads 0.
use Prim.{tt}
use Prim.Native.Nat.{ℕ, zero, suc, ◌≤◌, ◌<◌}
use mathlib.Core.Path.{◌≡◌, refl}
use mathlib.Core.Bool.{Bool, true, false, cond, ◌&&◌}
use native.Mathlib.Omega.{arith}
use borrow.Author.Tests.{eqb-true}
use lib.Dec.{eqb}
use lib.ListN.{get_or}
use Rattle.word.specs.Map.{bit}
use Rattle.word.proofs.Cond.{both, picked}
use Rattle.printer.specs.declared.Line.{Line}
use Rattle.printer.specs.declared.Printer.{Printer}
use Rattle.printer.specs.Tick.{no_printer}
use Rattle.printer.specs.Rules.{Keeps, printer_keeps, absent_keeps}
use Rattle.printer.proofs.LineKeeps.{command_keeps, data_keeps}
use Rattle.bus.specs.Offset.{is_device, line_of, number_of, field_of}
use Rattle.bus.specs.Words.{registers_of, bus_word_of}
use Rattle.bus.specs.Store.{register_write, bus_write_of}
use Rattle.bus.specs.Stored.{line_stored, InLine}
use Rattle.bus.specs.declared.read.Bus.{Bus}
use Rattle.bus.specs.declared.store.Store.{Store}
use Rattle.bus.specs.declared.store.Store.TheVariants.{Timer, Command, Data}
use Rattle.std.proofs.Common.{Option, Some, None}

pub in_line : (offset word : ℕ) → InLine (bus_write_of offset word)
unfolding bus_write_of
in_line offset word =
    let eight : number_of offset < 8 = omega arith in
    let n = number_of offset in
    let register : InLine (register_write n (field_of offset) word) =
    picked InLine (eqb (field_of offset) 1) _ _ (λ _. eight) (λ _. picked InLine (eqb (field_of offset) 2) _ _ (λ _. eight) (λ _. tt)) in
    picked InLine (eqb offset 0x20) _ _ (λ _. tt)
    (λ _. picked InLine (is_device offset) _ _ (λ _. picked InLine (eqb (line_of offset) 6) _ _ (λ _. register) (λ _. tt)) (λ _. tt))

pub store_keeps : (installed delay room : ℕ) (s : Option Store) (line : Line) → InLine s → 1 ≤ delay →
    Keeps installed delay room line → Keeps installed delay room (line_stored installed delay s line)
store_keeps installed delay room None line h some k = k
store_keeps installed delay room (Some (Timer word)) line h some k = k
store_keeps installed delay room (Some (Command n word)) line h some k = command_keeps installed delay room n line k h word some
store_keeps installed delay room (Some (Data n word)) line h some k = data_keeps installed delay room n line k h word

-- the four registers of a printer that is all 0
zeros : (p : Printer) (field : ℕ) → absent_keeps p ≡ true → field < 4 → get_or (registers_of p) field 0 ≡ 0
zeros p field e h =
    let status = eqb p.status 0 in
    let command = eqb p.command 0 in
    let data0 = eqb p.data0 0 in
    let h₁ = (both (status && command && data0 && eqb p.left 0) (eqb p.count 0) e).0 in
    let h₂ = (both (status && command && data0) (eqb p.left 0) h₁).0 in
    let h₃ = both (status && command) data0 h₂ in
    let h₄ = both status command h₃.0 in
    by field h (eqb-true p.status 0 h₄.0) (eqb-true p.command 0 h₄.1) (eqb-true p.data0 0 h₃.1)
  where
    by : (k : ℕ) → k < 4 → p.status ≡ 0 → p.command ≡ 0 → p.data0 ≡ 0 → get_or (registers_of p) k 0 ≡ 0
    by zero h s c d = s
    by (suc zero) h s c d = c
    by (suc (suc zero)) h s c d = d
    by (suc (suc (suc zero))) h s c d = refl
    by (suc (suc (suc (suc k)))) h s c d = absurd (omega arith)

-- an uninstalled device reads 0
pub uninstalled_reads_0 : (b : Bus) (installed delay room : ℕ) (line : Line) (offset : ℕ) → Keeps installed delay room line →
    is_device offset ≡ true → bit (number_of offset) installed ≡ false → bus_word_of b line.printers offset ≡ 0
unfolding bus_word_of printer_keeps
uninstalled_reads_0 b installed delay room line offset k device off =
    let n = number_of offset in
    let p = get_or line.printers n no_printer in
    let keeps = rw off at (k.each n (omega arith)) in
    rw device (by (eqb (line_of offset) 6) (zeros p (field_of offset) keeps (omega arith)))
  where
    by : (ours : Bool) {x : ℕ} → x ≡ 0 → cond ours x 0 ≡ 0
    by true e = e
    by false e = refl
