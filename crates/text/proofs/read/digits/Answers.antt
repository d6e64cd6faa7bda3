-- `text::read::digits` meets its contract.
use Rattle.std.proofs.Common.{◌≡◌, ◌-◌, Some, None, ok_or, length, drop, ap, sym, ◌∙◌, arith}
use Rattle.std.proofs.lemmas.Grind.{common_steps}
use Rattle.std.proofs.lemmas.Result.{err_from_is_err_and}
use Rattle.text.specs.Digit.{is_digit}
use Rattle.text.specs.declared.found.NoNumber.TheVariants.{TooLarge}
use Rattle.text.proofs.Heads.{head_whole, head_fits}
use Rattle.text.proofs.Numbers.{digits_past, digits_none, digits_some}
use Rattle.text.proofs.read.digits.Goals as goal

pub returns-in_default : goal.returns-in_default
returns-in_default c = digits_past _ _ _ _ (grind (arith, c.in_default.ensures.lookup))

pub returns-then-count-eq0 : goal.returns-then-count-eq0
returns-then-count-eq0 c =
    let e : c.in-Some.rest.now ≡ drop c.args.from c.args.line.now = grind (arith, common_steps) in
    digits_none _ _ _ _ _ e _ c.run-count.ensures c.if-count-eq0.true

pub slice_bounds-sum-end : goal.slice_bounds-sum-end
slice_bounds-sum-end c = let h = head_fits (is_digit c.args.base) c.in-Some.rest.now in grind (arith, common_steps)

pub sum-requires-clause-all_digits : goal.sum-requires-clause-all_digits
sum-requires-clause-all_digits c = rw c.run-count.ensures (head_whole _ _)

pub returns-in_err-value : goal.returns-in_err-value
returns-in_err-value c =
    let e : c.in-Some.rest.now ≡ drop c.args.from c.args.line.now = grind (arith, common_steps) in
    let p = err_from_is_err_and c.from_residual.result c.from_residual.ensures.1 in
    let t : c.sum.result ≡ None = grind arith in
    let g = c.in_err-value.ensures.value ∙ ap (λ o. ok_or o (TooLarge c.args.first)) t in
    let f : c.in_err-value.field-0.0 ≡ TooLarge c.args.first = cc in
    rw (p.1, p.2, f) (digits_some _ _ _ _ _ e _ c.run-count.ensures c.if-count-eq0.false (sym t ∙ c.sum.ensures))

pub overflow_add-result : goal.overflow_add-result
overflow_add-result c =
    let h = head_fits (is_digit c.args.base) c.in-Some.rest.now in
    let e : length c.in-Some.rest.now ≡ length c.args.line.now - c.args.from = grind (arith, common_steps) in
    record { fits = omega arith }

pub returns : goal.returns
returns c =
    let e : c.in-Some.rest.now ≡ drop c.args.from c.args.line.now = grind (arith, common_steps) in
    let t : c.sum.result ≡ Some c.in_ok-value.value = grind arith in
    digits_some _ _ _ _ _ e _ c.run-count.ensures c.if-count-eq0.false (sym t ∙ c.sum.ensures)
