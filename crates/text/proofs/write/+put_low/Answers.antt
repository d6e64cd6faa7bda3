-- `text::write::put_low` meets its contract: the digits above the last, and the last.
use Rattle.text.proofs.Laying.{laid_none, laid_then}
use Rattle.text.proofs.Spelling.{low_none, low_more}
use Rattle.text.proofs.write.+put_low.Goals as goal

pub returns-then-count-eq0 : goal.returns-then-count-eq0
returns-then-count-eq0 t c = rw (low_none _ _ _ c.if-count-eq0.true) (laid_none _ _)

pub returns : goal.returns
returns t c = rw (low_more _ _ _ c.if-count-eq0.false) (laid_then c.put_low-next.ensures c.put_digit.ensures)
