-- `lastwrite::put_found` meets its contract.
use Rattle.std.proofs.Common.{ℕ, List, sym, ap, ◌∙◌}
use lib.Seq.{sets}
use Rattle.word.specs.Lists.{flat}
use Rattle.word.specs.Big.{word_bytes}
use Rattle.word.proofs.Lists.{sets_whole}
use Rattle.lastwrite.specs.LastWrite.{answer_words}
use Rattle.lastwrite.proofs.Answers.{words_long}
use Rattle.lastwrite.proofs.put_found.Goals as goal

pub returns : goal.returns
returns c =
    let a = c.args in
    record {
      answer_is = c.done.ensures;
      bytes_is =
          c.put_words.ensures
          ∙ ap (λ (ws : List ℕ). sets a.answer.now 0 (flat word_bytes ws)) c.answer_words-words.ensures
          ∙ sets_whole a.answer.now (flat word_bytes (answer_words a.time a.found)) (words_long a.time a.found ∙ sym c.requires.answer_len);
    }
