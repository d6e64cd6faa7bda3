-- `text::write::put_signed` meets its contract.
use borrow.Author.Tests.{le-ltb}
use Rattle.text.proofs.Laying.{laid_then}
use Rattle.text.proofs.write.put_signed.Goals as goal

pub returns : goal.returns
returns c = rw (le-ltb _ _ c.if-wide-lt2147483648.false) (laid_then c.put-next.ensures c.put_decimal-2.ensures)
