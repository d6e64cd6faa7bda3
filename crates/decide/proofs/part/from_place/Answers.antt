-- `decide::part::from_place` meets its contract: a shift by whole bytes.
use Prim.Native.Nat.{◌/◌, ◌%◌}
use mathlib.Core.Path.{ap}
use Rattle.decide.proofs.Bytes.{octets}
use Rattle.decide.specs.Part.{from_place}
use Rattle.decide.proofs.part.from_place.Goals as goal

pub returns : goal.returns
unfolding from_place
returns c = ap (λ p. c.args.word / p) (octets (c.args.at % 4))
