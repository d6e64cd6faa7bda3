-- `state::decode::tlb` meets its contract: each place of the array is read.
use Rattle.std.proofs.Common.{rules}
use Rattle.device.proofs.Made.{made_by}
use Rattle.state.specs.Layout.{row_of}
use Rattle.state.specs.Layout.{body_word, row_at}
use Rattle.state.proofs.decode.tlb.Goals as goal

pub returns : goal.returns
returns c = made_by _ _ (row_at (body_word c.args.body.now)) (λ i y q k. search rules) c.from_fn.result 16 (row_of 0 0) c.from_fn.ensures.items
