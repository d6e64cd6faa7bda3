-- What the two moves mean, once over the base b: 4 for the KU/IE stack and 2 for the VM stack.
use mathlib.Core.Path.{◌≡◌, ◌∙◌, sym}
use Prim.Native.Nat.{ℕ, ◌+◌, ◌*◌, ◌/◌, ◌%◌, ◌<◌}
use native.Mathlib.Nat.{add-mul, mul_assoc, mul-pos, mod-lt, mul-div_cancel, mul-mod_left, div-div-eq-div-mul}
use native.Mathlib.Omega.{arith}
use lib.Arith.{mod-mul, digits_div, digits_mod}
use Rattle.cp0.specs.Stack.{current, previous, old, stack_of, pushed_stack, popped_stack}

module _ (b s : ℕ) (pos : 0 < b) where
  -- the two newest fields, one place up
  digits : pushed_stack b s ≡ (previous b s * b + current b s) * b
  digits =
      let cut : s * b % (b * b * b) ≡ (s * b / b % (b * b)) * b + s * b % b = mod-mul (s * b) (mul-pos pos pos) pos in
      let two : s % (b * b) ≡ (s / b % b) * b + s % b = mod-mul s pos pos in
      rw (cut, mul-div_cancel s pos, mul-mod_left s b, two) (omega arith)

  -- entry: 0 comes in as current, current becomes previous, previous becomes old
  pub pushed_is : pushed_stack b s ≡ stack_of b 0 (current b s) (previous b s)
  pushed_is = digits ∙ rw (add-mul, mul_assoc) (omega arith)

  -- RFE after entry: current and previous are what they were
  pub popped_pushed : popped_stack b (pushed_stack b s) ≡ stack_of b (current b s) (previous b s) (previous b s)
  popped_pushed =
      let up : pushed_stack b s / b ≡ previous b s * b + current b s = rw digits (mul-div_cancel (previous b s * b + current b s) pos) in
      let p : previous b (pushed_stack b s) ≡ current b s = rw up (digits_mod (previous b s) (mod-lt s pos)) in
      let o : old b (pushed_stack b s) ≡ previous b s = sym (div-div-eq-div-mul (pushed_stack b s) b b) ∙ rw up (digits_div (previous b s) (mod-lt s pos)) in
      λ i. stack_of b (p i) (o i) (o i)
