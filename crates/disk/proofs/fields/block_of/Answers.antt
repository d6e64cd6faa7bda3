-- `fields::block_of` meets its contract: no product is too large.
use mathlib.Core.Path.{refl}
use native.Mathlib.Omega.{arith}
use Rattle.disk.specs.Fields.{heads, headnum, sectors, block_of}
use Rattle.disk.proofs.Places.{small}
use Rattle.disk.proofs.fields.block_of.Goals as goal

pub returns : goal.returns
unfolding block_of
returns c = let d = c.args.d in
    let one = small d.cylinder (heads d.data1) (headnum d.command) (sectors d.data1) (omega arith) (omega arith) (omega arith) (omega arith) in
    record { place_is = refl; small = omega arith }
