-- `decide::step::execute` meets its contract: what is decoded asks for what there is (`intent_asks`).
use Prim.Native.Nat.{◌<◌}
use mathlib.Core.Path.{◌≡◌}
use native.Mathlib.Omega.{arith}
use lib.ListN.{length}
use Rattle.decide.proofs.Asks.{intent_asks}
use Rattle.decide.specs.Decide.{execute_of}
use borrow.Author.Rules.{rules}
use Rattle.decide.proofs.step.execute.Goals as goal

pub intend-intent-requires : goal.intend-intent-requires
intend-intent-requires c = record { holds_zero = c.requires.holds_zero; known = rw c.sizes.ensures c.requires.known }

pub settle-requires : goal.settle-requires
settle-requires c =
    let sixteen : length c.args.rows ≡ 16 = search rules in
    let rows : 0 < length c.args.rows = omega (arith, sixteen) in
    let asks = intent_asks _ _ c.requires.whole rows _ _ c.args.word c.decode.ensures c.sizes.ensures c.intend-intent.ensures in
    record { asks = rw sixteen at asks; holds_zero = c.requires.holds_zero }

pub returns : goal.returns
unfolding execute_of
returns c = rw (c.settle.ensures, c.intend-intent.ensures, c.sizes.ensures, c.decode.ensures)
