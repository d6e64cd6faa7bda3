-- `held::line::ending_in` meets its contract: `any` asks each printer.
use Prim.Native.Nat.{ℕ, ◌+◌}
use mathlib.Core.Path.{◌≡◌, refl, sym, ap, ◌∙◌}
use mathlib.Core.Bool.{Bool, true, false}
use native.Mathlib.Omega.{arith}
use Rattle.std.proofs.Common.{rules}
use Rattle.std.specs.List.{range_with_len}
use Rattle.std.proofs.lemmas.Iterator.{YieldsList-from_range, cases_from_any}
use Rattle.std.proofs.lemmas.List.FromFn.{get_or-range_with_len}
use Rattle.device.proofs.Made.{some_told}
use Rattle.printer.specs.Tick.{no_printer, finishes}
use Rattle.printer.proofs.Ending as printer
use Rattle.held.specs.Board.{printer_in, printers_in}
use Rattle.held.proofs.Stored.{printer_at}
use Rattle.held.proofs.line.ending_in.Goals as goal

pub returns : goal.returns
returns c =
    let words = c.args.words.now in
    let t : ℕ → Bool = λ n. finishes (printer_in words n) in
    let told = cases_from_any _ _ c.any.result (λ n. t n ≡ true) (λ n. t n ≡ false) c.any.ensures.ran (YieldsList-from_range 0 8 8 (cc) refl)
    (λ x q k. search rules) (λ x q k. search rules) in
    some_told no_printer finishes (printers_in words) t (range_with_len 0 8) 0 8 refl
    (λ k h. let z : 0 + k ≡ k = omega arith in ap t (get_or-range_with_len 0 8 k 0 h ∙ z) ∙ ap finishes (sym (printer_at words k h))) c.any.result told
    ∙ sym (printer.some_told finishes 8 (printers_in words))
