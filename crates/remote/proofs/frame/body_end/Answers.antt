-- `remote::frame::body_end` meets its contract.
use Rattle.std.proofs.Common.{◌+◌, drop, ap, ◌∙◌, rules, tests}
use Rattle.std.proofs.lemmas.Iterator.{YieldsList-from_slice}
use Rattle.std.proofs.lemmas.Iterator.Adapters.{YieldsList-from_skip}
use Rattle.std.proofs.lemmas.Iterator.Consumers.{count_from_yields_List}
use Rattle.std.proofs.lemmas.Iterator.Search.{YieldsList-from_take_while}
use Rattle.std.proofs.lemmas.List.Folds.{length-prefix_len}
use Rattle.text.proofs.Heads.{head_is}
use Rattle.remote.specs.Heard.{in_body}
use Rattle.remote.proofs.frame.body_end.Goals as goal

pub returns : goal.returns
returns c =
    let input = c.args.input.now in
    let rest = drop 1 input in
    ap (λ n. 1 + n)
    (count_from_yields_List c.take_while.result _ c.count.ensures.ran
    (YieldsList-from_take_while _ in_body (YieldsList-from_skip 1 (YieldsList-from_slice input cc) cc) c.take_while.ensures.closure c.take_while.ensures.done (λ x b q k. search (rules, tests)))
    ∙ length-prefix_len in_body rest
    ∙ head_is in_body rest)
