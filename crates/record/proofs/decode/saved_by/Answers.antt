-- `record::decode::saved_by` meets its contract, kind by kind.
use borrow.Author.Tests.{ne_eqb}
use Rattle.record.specs.Layout.{saved_at}
use Rattle.record.proofs.decode.saved_by.Goals as goal

pub returns-in-1 : goal.returns-in-1
unfolding saved_at
returns-in-1 c = rw c.in-1.is

pub returns-in-2 : goal.returns-in-2
unfolding saved_at
returns-in-2 c = rw c.in-2.is

pub returns-in-3 : goal.returns-in-3
unfolding saved_at
returns-in-3 c = rw c.in-3.is

pub returns-in_default : goal.returns-in_default
unfolding saved_at
returns-in_default c =
    let no = c.in_default.in_default-own.rest in
    simp (ne_eqb _ _ no.0.0.1, ne_eqb _ _ no.0.1, ne_eqb _ _ no.1)
