-- `record::decode::decode` meets its contract: each field is what its own function ensures.
use Rattle.record.specs.Layout.{record_at, record_of}
use Rattle.record.proofs.decode.decode.Goals as goal

pub returns : goal.returns
unfolding record_of record_at
returns c = cc
