-- `record::decode::saved` meets its contract: the four words, read as what was saved.
use Rattle.record.specs.Layout.{record_at, record_of}
use Rattle.record.proofs.decode.saved.Goals as goal

pub returns : goal.returns
unfolding record_of record_at
returns c = cc
