-- `record::decode::cp0` meets its contract: each field is the word that was read for it.
use Rattle.record.proofs.decode.cp0.Goals as goal

pub returns : goal.returns
returns c =
    let w7 = c in
    let w6 = w7 in
    let w5 = w6 in
    let w4 = w5 in
    let w3 = w4 in
    let w2 = w3 in
    let w1 = w2 in
    λ i. record {
      index = w1.word.ensures i;
      random = w2.word-2.ensures i;
      entry_hi = w3.word-3.ensures i;
      entry_lo = w4.word-4.ensures i;
      bad_vaddr = w5.word-5.ensures i;
      status = w6.word-6.ensures i;
      cause = w7.word-7.ensures i;
      epc = c.word-8.ensures i;
    }
