-- `remote::reply::say` meets its contract.
use mathlib.Core.Path.{refl}
use Rattle.text.proofs.Laying.{laid_then}
use Rattle.remote.proofs.Replies.{say_none, say_whole}
use Rattle.remote.proofs.reply.say.Goals as goal

pub returns-then-out-last : goal.returns-then-out-last
returns-then-out-last c = say_none _ _ _ _ _ (laid_then c.put_byte-first.ensures (laid_then c.put_body-body.ensures.laid (laid_then c.put_byte-end.ensures c.put_digit-last.ensures))) c.if-out-last.true

pub returns : goal.returns
returns c =
    say_whole _ _ _ _ _ (laid_then c.put_byte-first.ensures (laid_then c.put_body-body.ensures.laid (laid_then c.put_byte-end.ensures c.put_digit-last.ensures)))
    _ c.put_body-body.ensures.sum refl c.if-out-last.false _ _ c.put_digit.ensures
