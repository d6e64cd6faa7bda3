-- `text::write::put_hex` meets its contract.
use Rattle.std.proofs.Common.{◌≡◌, arith}
use Rattle.std.proofs.lemmas.Grind.{common_steps}
use Rattle.text.specs.Spelt.{within_of}
use Rattle.text.proofs.Laying.{laid_then}
use Rattle.text.proofs.write.put_hex.Goals as goal

pub returns : goal.returns
returns c =
    let e : within_of c.args.digits ≡ c.clamp.result = grind (arith, common_steps) in
    rw e (laid_then c.put-next.ensures c.put_low.ensures)
