-- `text::read::number` meets its contract.
use mathlib.Core.Path.{sym, ◌∙◌}
use native.Mathlib.Omega.{arith}
use Rattle.text.specs.Number.{number_of}
use Rattle.text.proofs.Numbers.{hex_within}
use Rattle.text.proofs.read.number.Goals as goal

pub overflow_add-from : goal.overflow_add-from
overflow_add-from c = record { fits = omega (arith, hex_within _ _ (sym c.is_hex.ensures ∙ c.if-is_hex.true)) }

pub returns-then-is_hex : goal.returns-then-is_hex
unfolding number_of
returns-then-is_hex c = rw (sym c.is_hex.ensures ∙ c.if-is_hex.true) c.digits.ensures

pub returns : goal.returns
unfolding number_of
returns c = rw (sym c.is_hex.ensures ∙ c.if-is_hex.false) c.decimal.ensures
