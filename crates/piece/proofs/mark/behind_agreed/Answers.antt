-- `piece::mark::behind_agreed` meets its contract.
use Rattle.std.proofs.Common.{ℕ, eqb, ◌+◌, ap, ◌∙◌, rules, tests}
use Rattle.std.specs.List.{zip}
use Rattle.std.proofs.lemmas.Iterator.{YieldsList-from_slice, YieldsList-from_zip}
use Rattle.std.proofs.lemmas.Iterator.Consumers.{count_from_yields_List}
use Rattle.std.proofs.lemmas.Iterator.Search.{YieldsList-from_take_while}
use Rattle.std.proofs.lemmas.List.Folds.{length-prefix_len}
use Rattle.piece.specs.Mark.{agreed_of}
use Rattle.piece.proofs.Agreed.{agreed_is}
use Rattle.piece.proofs.mark.behind_agreed.Goals as goal

pub returns : goal.returns
returns c =
    let rest = c.rest.result.now in
    let bytes = c.args.bytes.now in
    ap (λ n. c.args.from + n)
    (count_from_yields_List c.take_while.result _ c.count.ensures.ran
    (YieldsList-from_take_while _ (λ (p : ℕ × ℕ). eqb p.0 p.1)
    (YieldsList-from_zip (YieldsList-from_slice rest cc) (YieldsList-from_slice bytes cc))
    c.take_while.ensures.closure c.take_while.ensures.done (λ x b q k. search (rules, tests)))
    ∙ length-prefix_len (λ (p : ℕ × ℕ). eqb p.0 p.1) (zip rest bytes)
    ∙ agreed_is bytes rest
    ∙ ap (agreed_of bytes) c.rest.ensures)
