-- `held::line::wait` meets its contract. The invariant: the printers passed have had their tick, and those ahead are as they were.
use Rattle.std.specs.Prelude.{◌≡◌, ℕ, ◌<◌, true, List, [], get_or}
use mathlib.Core.Path.{refl, sym, ap, subst, ◌∙◌}
use native.Mathlib.Omega.{arith}
use Rattle.printer.specs.Tick.{Printing, printing, no_printer, is_busy, ticks}
use Rattle.printer.specs.declared.Printer.{Printer}
use Rattle.printer.proofs.Ticks.{ticks_on}
use Rattle.printer.proofs.Passed.{not_passed}
use Rattle.held.specs.Board.{printer_in, printers_in}
use Rattle.held.specs.Line.{GoesOn}
use Rattle.held.proofs.LineHeld.{tick_held}
use Rattle.held.proofs.Stored.{printer_at}
use Rattle.held.proofs.line.wait.Goals as goal

-- a printer ahead is as it was
ahead_goes : (words₀ words : List ℕ) (n : ℕ) → n < 8 →
    ((pending : ℕ) (paper : List ℕ) → printing (printers_in words) pending paper ≡ ticks n (printing (printers_in words₀) pending paper)) → GoesOn words₀ n → GoesOn words n
ahead_goes words₀ words n few done goes =
    let same : printer_in words n ≡ printer_in words₀ n =
    sym (printer_at words n few) ∙ ap (λ (s : Printing). get_or s.line.printers n no_printer) (done 0 [])
    ∙ not_passed (printing (printers_in words₀) 0 []) n n (omega arith) ∙ printer_at words₀ n few in
    subst (λ (p : Printer). is_busy p ≡ true → 1 < p.left) (sym same) goes

pub loop-n-init : goal.loop-n-init
unfolding ticks
loop-n-init c = (omega arith, c.requires.0, λ pending paper. refl)

pub wait_at-requires : goal.wait_at-requires
wait_at-requires c =
    let l = c.loop-n in
    let few : l.n < 8 = omega arith in
    (few, l.invariant.1, ahead_goes c.args.words.now l.words l.n few l.invariant.2 (c.requires.1 l.n few))

pub loop-n-preserved : goal.loop-n-preserved
loop-n-preserved c =
    let l = c.loop-n in
    let called = c.wait_at in
    let few : l.n < 8 = omega arith in (
      omega arith,
      (called.ensures []).forty,
      λ pending paper. ticks_on l.n _ _ _ (l.invariant.2 pending paper) (tick_held l.words l.n few l.invariant.1 pending (called.ensures paper) refl),
    )

pub returns : goal.returns
returns c =
    let l = c.loop-n in
    let all : l.n ≡ 8 = omega arith in
    record { ticked = λ pending paper. rw all at (l.invariant.2 pending paper); forty = l.invariant.1 }
