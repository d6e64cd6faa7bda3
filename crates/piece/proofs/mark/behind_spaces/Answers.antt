-- `piece::mark::behind_spaces` meets its contract.
use Rattle.std.proofs.Common.{◌+◌, ap, ◌∙◌, rules, tests}
use Rattle.std.proofs.lemmas.Iterator.{YieldsList-from_slice}
use Rattle.std.proofs.lemmas.Iterator.Consumers.{count_from_yields_List}
use Rattle.std.proofs.lemmas.Iterator.Search.{YieldsList-from_take_while}
use Rattle.std.proofs.lemmas.List.Folds.{length-prefix_len}
use Rattle.text.specs.Head.{head_of}
use Rattle.text.proofs.Heads.{head_is}
use Rattle.piece.specs.Mark.{is_space}
use Rattle.piece.proofs.mark.behind_spaces.Goals as goal

pub returns : goal.returns
returns c =
    ap (λ n. c.args.from + n)
    (count_from_yields_List c.take_while.result _ c.count.ensures.ran
    (YieldsList-from_take_while _ is_space (YieldsList-from_slice c.rest.result.now cc) c.take_while.ensures.closure c.take_while.ensures.done (λ x b q k. search (rules, tests)))
    ∙ length-prefix_len is_space c.rest.result.now
    ∙ head_is is_space c.rest.result.now
    ∙ ap (head_of is_space) c.rest.ensures)
