-- `text::read::sum` meets its contract: where 64 bits do not hold the sum so far, they do not hold the whole, which is no less.
use Rattle.std.proofs.Common.{◌≡◌, ◌+◌, ◌*◌, ◌∙◌, sym, ap, get_or, arith}
use borrow.Author.Tests.{ltb-true}
use Rattle.text.specs.Digit.{digit_of, is_digit}
use Rattle.text.specs.Number.{held_of}
use Rattle.text.proofs.Heads.{head_each}
use Rattle.text.proofs.Values.{value_past, value_goes, sum_over, held, not_held}
use Rattle.text.proofs.read.sum.Goals as goal

pub returns-in_err-checked_mul : goal.returns-in_err-checked_mul
returns-in_err-checked_mul c =
    rw c.from_residual.ensures
    (sym (ap held_of (sym c.loop-b.invariant.same) ∙ not_held _ (sum_over _ _ _ c.loop-b.b-index c.loop-b-test.true c.requires.at_least_1 (omega (arith, c.in_err-checked_mul.ensures)))))

pub returns-in_err-digit : goal.returns-in_err-digit
returns-in_err-digit c =
    let d = head_each (is_digit c.args.base) c.args.digits.now c.loop-b.b-index c.loop-b-test.true c.loop-b.invariant.digits in
    let l = ltb-true _ _ d.0 in
    absurd (omega arith)

pub returns-in_err-value : goal.returns-in_err-value
returns-in_err-value c =
    rw c.from_residual-in_err-value.ensures
    (sym (ap held_of (sym c.loop-b.invariant.same) ∙ not_held _ (sum_over _ _ _ c.loop-b.b-index c.loop-b-test.true c.requires.at_least_1 (omega arith))))

pub loop-b-preserved : goal.loop-b-preserved
loop-b-preserved c =
    let d = head_each (is_digit c.args.base) c.args.digits.now c.loop-b.b-index c.loop-b-test.true c.loop-b.invariant.digits in
    let e : c.in_ok-value.value ≡ c.loop-b.value * c.args.base + digit_of (get_or c.args.digits.now c.loop-b.b-index 0) = omega arith in
    record { fits = omega arith; same = rw e (value_goes _ _ _ _ c.loop-b-test.true ∙ c.loop-b.invariant.same); digits = d.1 }

pub returns : goal.returns
returns c = sym (ap held_of (sym c.loop-b.invariant.same ∙ value_past _ _ _ c.loop-b.b-index (omega arith)) ∙ held _ c.loop-b.invariant.fits)
