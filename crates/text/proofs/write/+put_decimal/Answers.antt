-- `text::write::put_decimal` meets its contract: the digits above the last, and the last.
use borrow.Author.Rules.{rules}
use Rattle.text.proofs.Laying.{laid_then}
use Rattle.text.proofs.Spelling.{decimal_small, decimal_more}
use Rattle.text.proofs.write.+put_decimal.Goals as goal

pub returns-then-value-lt10 : goal.returns-then-value-lt10
returns-then-value-lt10 t c = rw (decimal_small _ c.if-value-lt10.true) c.put_digit.ensures

pub returns : goal.returns
returns t c = rw (decimal_more _ c.if-value-lt10.false (search rules)) (laid_then c.put_decimal-next.ensures c.put_digit-2.ensures)
