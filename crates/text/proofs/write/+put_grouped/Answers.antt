-- `text::write::put_grouped` meets its contract: the groups above the last, a comma, and the last three digits.
use borrow.Author.Rules.{rules}
use Rattle.text.proofs.Laying.{laid_then}
use Rattle.text.proofs.Spelling.{grouped_small, grouped_more}
use Rattle.text.proofs.write.+put_grouped.Goals as goal

pub returns-then-value-lt1000 : goal.returns-then-value-lt1000
returns-then-value-lt1000 t c = rw (grouped_small _ c.if-value-lt1000.true) c.put_decimal.ensures

pub returns : goal.returns
returns t c = rw (grouped_more _ c.if-value-lt1000.false (search rules)) (laid_then c.put_grouped-next.ensures (laid_then c.put-next.ensures c.put_low.ensures))
