-- `record::encode::saved_words` meets its contract, variant by variant.
use Rattle.record.proofs.encode.saved_words.Goals as goal

pub returns-in-Register : goal.returns-in-Register
returns-in-Register c = rw c.in-Register.is

pub returns-in-TlbRow : goal.returns-in-TlbRow
returns-in-TlbRow c = rw c.in-TlbRow.is

pub returns-in-RamWord : goal.returns-in-RamWord
returns-in-RamWord c = rw c.in-RamWord.is
