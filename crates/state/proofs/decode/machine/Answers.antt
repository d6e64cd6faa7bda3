-- `state::decode::machine` meets its contract: each part is what was read for it.
use Rattle.state.specs.Layout.{machine_at}
use Rattle.state.proofs.decode.machine.Goals as goal

pub returns : goal.returns
unfolding machine_at
returns c = cc
