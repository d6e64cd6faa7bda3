-- `tlb::doubled::doubled` meets its contract: what a turn of the loop shows.
use mathlib.Core.Path.{◌∙◌, sym, ap, refl}
use borrow.Author.Rules.{rules}
use lib.ListN.{get_or}
use Rattle.tlb.specs.Entry.{no_row}
use Rattle.tlb.specs.Doubled.{clashes_in}
use Rattle.tlb.proofs.Clashes.{behind, double_end, double_hit, double_miss}
use Rattle.tlb.proofs.doubled.doubled.Goals as goal

pub loop-i-init : goal.loop-i-init
loop-i-init c = refl

pub loop-i-preserved : goal.loop-i-preserved
loop-i-preserved c =
    c.loop-i.invariant ∙ double_miss c.args.t c.loop-i.i (search rules) (ap (clashes_in (get_or c.args.t c.loop-i.i no_row)) (sym (behind c.args.t c.loop-i.i (search rules))) ∙ sym c.clashes.ensures ∙ c.if-clashes.false)

pub returns : goal.returns
returns c = sym (c.loop-i.invariant ∙ double_end c.args.t c.loop-i.i (search rules))

pub returns-then-clashes : goal.returns-then-clashes
returns-then-clashes c =
    sym (c.loop-i.invariant ∙ double_hit c.args.t c.loop-i.i (search rules) (ap (clashes_in (get_or c.args.t c.loop-i.i no_row)) (sym (behind c.args.t c.loop-i.i (search rules))) ∙ sym c.clashes.ensures ∙ c.if-clashes.true))
