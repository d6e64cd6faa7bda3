-- `tlb::search` meets its contract: what `lowest` finds lies in the table, and `any` says of the rows behind it whether a second one matches.
use mathlib.Core.Path.{◌∙◌, sym, ap}
use Prim.Native.Nat.{◌<◌}
use borrow.Author.Rules.{rules}
use lib.ListN.{length}
use Rattle.std.specs.List.{list_any}
use Rattle.tlb.specs.Entry.{matches_of}
use Rattle.tlb.specs.Search.{hit_at}
use Rattle.tlb.proofs.Clashes.{behind}
use Rattle.tlb.proofs.Steps.{first_within, first_told}
use Rattle.tlb.proofs.search.Goals as goal

pub overflow_add-at : goal.overflow_add-at
overflow_add-at c =
    let within : c.in_ok-at.at < length c.args.t = first_within (matches_of c.args.sought) c.args.t _ (sym c.lowest.ensures ∙ c.in_ok-at.was) in
    search rules

pub offset_bounds-t-at : goal.offset_bounds-t-at
offset_bounds-t-at c =
    let within : c.in_ok-at.at < length c.args.t = first_within (matches_of c.args.sought) c.args.t _ (sym c.lowest.ensures ∙ c.in_ok-at.was) in
    search rules

pub slice_bounds-any-count : goal.slice_bounds-any-count
slice_bounds-any-count c =
    let within : c.in_ok-at.at < length c.args.t = first_within (matches_of c.args.sought) c.args.t _ (sym c.lowest.ensures ∙ c.in_ok-at.was) in
    search rules

pub slice_bounds-any-start : goal.slice_bounds-any-start
slice_bounds-any-start c =
    let within : c.in_ok-at.at < length c.args.t = first_within (matches_of c.args.sought) c.args.t _ (sym c.lowest.ensures ∙ c.in_ok-at.was) in
    search rules

pub returns : goal.returns
returns c =
    ap (hit_at c.in_ok-at.at) (c.any-twice.ensures ∙ ap (list_any (matches_of c.args.sought)) (behind c.args.t c.in_ok-at.at (search rules)))
    ∙ sym (first_told (matches_of c.args.sought) c.args.t _ (sym c.lowest.ensures ∙ c.in_ok-at.was))
